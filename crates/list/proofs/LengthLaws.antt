-- A list carries the width 8 only. A record's handles have 23 bytes, so the length is never wrong; call 1 makes clusters of
-- eight, and no other call changes a width, so an active cluster has the handle's width and an inactive one is told by 8.
-- Assumes nothing.
use mathlib.Core.Path.{◌≡◌, refl, sym, ap, ◌∙◌, subst}
use mathlib.Core.Logic.{◌≢◌, inl, inr}
use Prim.Native.Nat.{ℕ, zero, suc, ◌-◌, ◌*◌, ◌/◌, ◌≤◌, ◌<◌}
use native.Mathlib.Omega.{arith}
use native.Mathlib.Decide.{dec_lt}
use mathlib.Core.Bool.{Bool, true, false, not, ◌&&◌, ◌||◌, true≢false, false≢true}
use mathlib.Core.List.{List, [], ◌∷◌, ◌++◌}
use mathlib.Core.Option.{Option, none, some}
use borrow.Author.Tests.{eq-eqb, eqb-true, eqb-false}
use lib.Dec.{eqb}
use lib.ListN.{length, get_or, take, drop, replicate, length-drop}
use lib.Seq.{length-take-le}
use Rattle.handle.specs.declared.Handle.{Handle}
use Rattle.handle.specs.Handles.{width_of, decoded, no_width, Row, first_of}
use Rattle.handle.specs.Conversion.{product}
use Rattle.store.specs.declared.Cluster.{Cluster}
use Rattle.store.specs.declared.Store.{Store}
use Rattle.store.specs.Records.{inactive, no_cluster, cluster_at, table_at, put_record}
use Rattle.store.proofs.ChangeLaws.{put_other, put_same, put_out}
use Rattle.calls.specs.Calls.{Copy, Kind, new_cluster, delete_cluster, new_segment, delete_segment, read, write, weaken}
use Rattle.calls.specs.Calls.{reduce, new_password, freeze, join, validate, look, Call, call, opens, uses, taken, presented}
use Rattle.calls.specs.Calls.{any_of, record_for, record_named}
use Rattle.calls.specs.Numbers.{bad_length, inactive_cluster, other_width, at, rows, number}
use Rattle.calls.specs.Steps.{left, cluster_made, cluster_deleted, segment_made, segment_deleted, segment_written}
use Rattle.calls.specs.Steps.{password_replaced, segment_marked, segment_read, segment_shown, given, outcome, step}
use Rattle.calls.proofs.FirstLaws.{first_holding, first_above, first_clear}
use Rattle.calls.proofs.CallLaws.{In, active_is}
use Rattle.chain.specs.Way.{reached, records}
use Rattle.chain.specs.Means.{IsRecord, OnRecords}
use Rattle.chain.specs.Bytes.{count, next_in}
use Rattle.list.specs.Records.{record_bytes, record_in, field, code_of, kind_of, arguments_of}
use Rattle.list.specs.Runs.{Bench, starting, Performed, misfits, misfit_rows, refused, stepped, performed_as, performed}
use Rattle.list.specs.Lengths.{HandlesOfEight, RightLength, Eights, EightsKept, NoLength, numbers_of, NoneIs}
use Rattle.list.specs.Lengths.{NoLengthInLists}
use Rattle.list.proofs.FieldLaws.{field_long, handle_long, width_eight}
use Rattle.list.proofs.RunLaws.{whole}

-- ---- the handles of a record

pub handles_of_eight : (r : List ℕ) → length r ≡ record_bytes → HandlesOfEight r
handles_of_eight r e =
    record {
      first = width_eight _ (handle_long r e);
      second = width_eight _ (field_long r e 32 23 (omega arith));
    }

-- a test that none of some handles passes
none_pass : (p : Handle → Bool) (hs : List Handle) → ((h : Handle) → In h hs → p h ≡ false) → any_of p hs ≡ false
none_pass p [] e = refl
none_pass p (k ∷ hs) e = λ j. e k (inl refl) j || none_pass p hs (λ h i. e h (inr i)) j

module _ (r : List ℕ) (e : length r ≡ record_bytes) where
  abbrev one : Handle
  one = decoded (field r 8 23)

  abbrev two : Handle
  two = decoded (field r 32 23)

  taken_eight : (u v : Bool) (h : Handle) → In h (taken u one ++ taken v two) → width_of h ≡ 8
  taken_eight true v h (inl q) = ap width_of q ∙ (handles_of_eight r e).first
  taken_eight true true h (inr (inl q)) = ap width_of q ∙ (handles_of_eight r e).second
  taken_eight true true h (inr (inr i)) = absurd i
  taken_eight true false h (inr i) = absurd i
  taken_eight false true h (inl q) = ap width_of q ∙ (handles_of_eight r e).second
  taken_eight false true h (inr i) = absurd i
  taken_eight false false h i = absurd i

  module _ (k : Kind) (b : List ℕ) where
    abbrev x : Call
    x = call k (arguments_of k r b)

    eight : (h : Handle) → In h (presented x) → width_of h ≡ 8
    eight = taken_eight (uses k).handle (uses k).other

    known : bad_length x ≡ false
    unfolding bad_length
    known = none_pass no_width (presented x) (λ h i. ap (λ (n : ℕ). eqb n 0) (eight h i))

    -- ---- the number of its call

    module _ (s : Store) (size : ℕ) (eights : (n : ℕ) → (table_at s n).active ≡ true → (table_at s n).width ≡ 8) where
      abbrev other : Handle → Bool
      other h = not (eqb (width_of h) (table_at s (record_named h)).width)

      same_width : inactive_cluster x (table_at s) ≡ false → other_width x (table_at s) ≡ false
      unfolding other_width
      same_width a = go (opens k) refl
        where
          go : (t : Bool) → opens k ≡ t → (t && any_of other (presented x)) ≡ false
          go true o =
              none_pass other (presented x)
              (λ h i. ap not (eq-eqb (width_of h) (table_at s (record_named h)).width
              (eight h i ∙ sym (eights (record_named h) (active_is x h i o (table_at s) a)))))
          go false o = refl

      abbrev all : List Row
      all = at x s (rows product size)

      -- the rows down to 8, and those below it
      abbrev above : List Row
      above = take 10 all

      abbrev below : List Row
      below = drop 10 all

      number_not : number product x s size ≢ 25
      unfolding number
      number_not q = go (inactive_cluster x (table_at s)) refl
        where
          neither : (t u : Bool) → t ≡ false → u ≡ false → (t || (u || false)) ≡ true → ⊥
          neither true u a b = λ h. true≢false a
          neither false true a b = λ h. true≢false b
          neither false false a b = λ h. false≢true h

          go : (t : Bool) → inactive_cluster x (table_at s) ≡ t → ⊥
          go false a =
              neither (bad_length x) (other_width x (table_at s)) known (same_width a)
              (first_holding all 25 (omega arith) q)
          go true a =
              neither (bad_length x) false known refl
              (first_holding above 25 (omega arith) (sym (first_above above below told) ∙ q))
            where
              told : first_of above ≢ 0
              told z =
                  true≢false (sym a ∙ (first_clear above (omega arith) z).1.1.1.1.1.1.1.1.1.0)

pub right_length : RightLength
right_length k r b e = known r e k b

-- ---- what a call leaves

abbrev Eight : Store → Type 0
Eight s = (n : ℕ) → (table_at s n).active ≡ true → (table_at s n).width ≡ 8

put_eight : (s : Store) (n : ℕ) (c : Cluster) → (c.active ≡ true → c.width ≡ 8) → Eight s → Eight (put_record s n c)
put_eight s n c e h m a = go (eqb m n) refl (dec_lt n (length s.clusters))
  where
    go : (t : Bool) → eqb m n ≡ t → Dec (n < length s.clusters) → (cluster_at (put_record s n c) m).width ≡ 8
    go false q d =
        let o : cluster_at (put_record s n c) m ≡ cluster_at s m = put_other s n c m (eqb-false m n q) in
        ap (λ (d : Cluster). d.width) o ∙ h m (ap (λ (d : Cluster). d.active) (sym o) ∙ a)
    go true q (yes l) =
        let o : cluster_at (put_record s n c) m ≡ c =
        ap (cluster_at (put_record s n c)) (eqb-true m n q) ∙ put_same s n c l in
        ap (λ (d : Cluster). d.width) o ∙ e (ap (λ (d : Cluster). d.active) (sym o) ∙ a)
    go true q (no l) =
        let o : put_record s n c ≡ s = put_out s n c (omega arith) in
        ap (λ (t : Store). (cluster_at t m).width) o ∙ h m (ap (λ (t : Store). (cluster_at t m).active) (sym o) ∙ a)

left_eight : (k : Kind) (r b : List ℕ) (c : Copy) → Eight c.store
    → Eight (left k (call k (arguments_of k r b)) c).store
unfolding left cluster_made cluster_deleted segment_made segment_deleted segment_written password_replaced segment_marked
left_eight new_cluster r b c h = put_eight c.store _ _ (λ a. refl) h
left_eight delete_cluster r b c h = put_eight c.store _ _ (λ a. absurd (false≢true a)) h
left_eight new_segment r b c h = put_eight c.store _ _ (h (record_for (call new_segment (arguments_of new_segment r b)))) h
left_eight delete_segment r b c h =
    put_eight c.store _ _ (h (record_for (call delete_segment (arguments_of delete_segment r b)))) h
left_eight read r b c h = h
left_eight write r b c h = h
left_eight weaken r b c h = h
left_eight reduce r b c h = h
left_eight new_password r b c h =
    put_eight c.store _ _ (h (record_for (call new_password (arguments_of new_password r b)))) h
left_eight freeze r b c h = put_eight c.store _ _ (h (record_for (call freeze (arguments_of freeze r b)))) h
left_eight join r b c h = h
left_eight validate r b c h = h
left_eight look r b c h = h

-- a call done has the number 0
given_number : (k : Kind) (x : Call) (c : Copy) → (given product k x c).number ≡ 0
unfolding given segment_read segment_shown
given_number new_cluster x c = refl
given_number delete_cluster x c = refl
given_number new_segment x c = refl
given_number delete_segment x c = refl
given_number read x c = refl
given_number write x c = refl
given_number weaken x c = refl
given_number reduce x c = refl
given_number new_password x c = refl
given_number freeze x c = refl
given_number join x c = refl
given_number validate x c = refl
given_number look x c = refl

module _ (r : List ℕ) (b : Bench) where
  abbrev chosen : Kind → Bool → Performed
  chosen k t =
      let x = call k (arguments_of k r b.buffer) in
      elim t [ true ↦ refused (first_of (misfit_rows x b.copy)) b | false ↦ stepped k x b ]

  abbrev asked : Kind → Call
  asked k = call k (arguments_of k r b.buffer)

  kept : Eights b → (o : Option Kind) → Eights (performed_as o r b).bench
  unfolding step
  kept h none = h
  kept h (some k) = go (misfits k r)
    where
      after : (n : ℕ) → Eight (outcome product n (asked k) b.copy).copy.store
      after zero = left_eight k r b.buffer b.copy h
      after (suc n) = h

      go : (t : Bool) → Eights (chosen k t).bench
      go true = h
      go false = after (number product (asked k) b.copy.store (length b.copy.memory))

  module _ (e : length r ≡ record_bytes) (h : Eights b) where
    told_not : (o : Option Kind) → (performed_as o r b).answer.number ≢ 25
    unfolding step
    told_not none = λ q. absurd (omega (arith, q))
    told_not (some k) = go (misfits k r)
      where
        own : (t : Bool) → t ≡ false → (t || false) ≡ true → ⊥
        own true a = λ h. true≢false a
        own false a = λ h. false≢true h

        same : (n : ℕ) → (outcome product n (asked k) b.copy).reply.number ≡ 25 → n ≡ 25
        same zero q = sym (given_number k (asked k) b.copy) ∙ q
        same (suc n) q = q

        go : (t : Bool) → (chosen k t).answer.number ≢ 25
        go true q =
            own (bad_length (asked k)) (known r e k b.buffer)
            (first_holding (misfit_rows (asked k) b.copy) 25 (omega arith) q)
        go false q =
            number_not r e k b.buffer b.copy.store (length b.copy.memory) h
            (same (number product (asked k) b.copy.store (length b.copy.memory)) q)

pub eights_kept : EightsKept
unfolding performed
eights_kept r b h = kept r b h (kind_of (code_of r))

pub no_length : NoLength
unfolding performed
no_length r b e h = told_not r b e h (kind_of (code_of r))

-- ---- a list

module _ (list : List ℕ) where
  abbrev next : ℕ → ℕ
  next = next_in list record_bytes

  record_long : (k : ℕ) → IsRecord (count list record_bytes) k → length (record_in list k) ≡ record_bytes
  record_long k i =
      length-take-le record_bytes (drop ((k - 1) * record_bytes) list)
      (rw length-drop
      (let u : 1 ≤ k = i.0 in
      let v : k ≤ length list / record_bytes = i.1 in
      omega arith))

  reached_next : (k i : ℕ) → reached next (next k) i ≡ reached next k (suc i)
  unfolding reached
  reached_next k zero = refl
  reached_next k (suc i) = ap next (reached_next k i)

  none_is : (m k : ℕ) (b : Bench) → OnRecords (count list record_bytes) next k m → Eights b
      → NoneIs 25 (numbers_of list (records next k m) b)
  unfolding records reached
  none_is zero k b on h = tt
  none_is (suc m) k b on h = (
    no_length (record_in list k) b (record_long k (on 0 (omega arith))) h,
    none_is m (next k) (performed (record_in list k) b).bench
        (λ i l. subst (IsRecord (count list record_bytes)) (sym (reached_next k i)) (on (suc i) (omega arith)))
        (eights_kept (record_in list k) b h),
  )

idle : (k n : ℕ) → (get_or (replicate k inactive) n no_cluster).active ≡ false
idle zero n = refl
idle (suc k) zero = refl
idle (suc k) (suc n) = idle k n

pub eights_starting : Eights starting
eights_starting n a = absurd (true≢false (sym a ∙ idle 32 n))

pub no_length_in_lists : NoLengthInLists
unfolding records
no_length_in_lists list zero e = tt
no_length_in_lists list (suc m) e =
    none_is list (suc m) 1 starting (whole list (suc m) e (omega arith)).on eights_starting
