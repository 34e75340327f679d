-- What a record does, code by code. The code names the kind; the call that the record encodes and the one that the code
-- makes agree in the arguments that the kind uses, so their steps are equal.
-- Assumes nothing.
use mathlib.Core.Path.{◌≡◌, refl, sym, ap, ap₂, ◌∙◌}
use Prim.Native.Nat.{ℕ, ◌+◌, ◌*◌, ◌≤◌, ◌<◌}
use native.Mathlib.Omega.{arith}
use mathlib.Core.Bool.{Bool, true, false, not, ◌||◌, cond, or-false}
use mathlib.Core.List.{List, [], ◌∷◌, ◌++◌}
use mathlib.Core.Option.{Option, none, some}
use borrow.Author.Tests.{lt-ltb, le-ltb, le-leb, lt-leb, ne_eqb}
use lib.Dec.{eqb, leb, ltb}
use lib.ListN.{length}
use Rattle.sizes.specs.Sizes.{nodes, clusters, password_bytes}
use Rattle.handle.specs.declared.Handle.{Handle}
use Rattle.handle.specs.Handles.{node_of, first_of, no_such_place, decoded}
use Rattle.handle.specs.Conversion.{product}
use Rattle.store.specs.declared.Store.{Store}
use Rattle.store.specs.Sound.{sound}
use Rattle.calls.specs.Calls.{Kind, new_cluster, delete_cluster, new_segment, delete_segment, read, write, weaken, reduce}
use Rattle.calls.specs.Calls.{new_password, freeze, join, code, Arguments, call, uses, among}
use Rattle.calls.specs.Numbers.{bad_length, unsound, no_place}
use Rattle.calls.specs.Steps.{Outcome, aes_step}
use Rattle.std.specs.Prelude.{Result, Ok, Err}
use Rattle.numbers.specs.declared.Number.{Number}
use Rattle.numbers.specs.Codes.{code as number}
use Rattle.calls.specs.declared.Done.{Done}
use Rattle.calls.specs.declared.Code.{Code}
use Rattle.calls.specs.declared.Code.TheVariants.{NewCluster, DeleteCluster, NewSegment, DeleteSegment, Read, Write, Weaken}
use Rattle.calls.specs.declared.Code.TheVariants.{Reduce, NewPassword, Freeze, Join}
use Rattle.calls.specs.Codes.{code as code_byte}
use Rattle.calls.specs.Answers as answers
use Rattle.calls.specs.Answers.{copy_of, ended, finished}
use Rattle.lines.specs.Lines.{plain}
use Rattle.calls.specs.Calls.{making_cluster, deleting_cluster, making_segment, deleting_segment, reading, writing}
use Rattle.calls.specs.Calls.{weakening_by, reducing, renewing, freezing, joining}
use Rattle.isolation.specs.Checks.{trimmed}
use Rattle.isolation.proofs.UnusedLaws.{unused_ignored}
use Rattle.list.specs.Records.{most_data, list_width, handle_bytes, byte, field, code_of, data_length, own_calls}
use Rattle.list.specs.Records.{other_calls, kind_among, kind_of, arguments_of}
use Rattle.list.specs.Runs.{bench, left, ran, Performed, misfits, misfit_rows, refused, after_step, stepped, performed_as}
use Rattle.list.specs.Runs.{performed}
use Rattle.list.proofs.FieldLaws.{width_eight}

-- ---- a code that no call has

abbrev Differs : List Kind → ℕ → Type 0
Differs [] c = Unit {0}
Differs (k ∷ ks) c = (c ≡ code k → ⊥) × Differs ks c

pub differ : (ks : List Kind) (c : ℕ) → Differs ks c → kind_among ks c ≡ none
differ [] c h = refl
differ (k ∷ ks) c h =
    ap (λ (t : Bool). elim t [ true ↦ some k | false ↦ kind_among ks c ]) (ne_eqb (code k) c (λ q. h.0 (sym q)))
    ∙ differ ks c h.1

pub among_first : (ks ls : List Kind) (c : ℕ) → Differs ls c → kind_among (ks ++ ls) c ≡ kind_among ks c
among_first [] ls c h = differ ls c h
among_first (k ∷ ks) ls c h =
    ap (λ (o : Option Kind). elim (eqb (code k) c) [ true ↦ some k | false ↦ o ]) (among_first ks ls c h)

no_kind : (n : ℕ) → ((c : Code) → code_byte c ≡ n → ⊥) → kind_of n ≡ none
unfolding kind_of
no_kind n f =
    differ (own_calls ++ other_calls) n (
      λ q. f NewCluster (sym q),
      (
        λ q. f DeleteCluster (sym q),
        (
          λ q. f NewSegment (sym q),
          (
            λ q. f DeleteSegment (sym q),
            (
              λ q. f Freeze (sym q),
              (
                λ q. f Read (sym q),
                (
                  λ q. f Write (sym q),
                  (
                    λ q. f Weaken (sym q),
                    (
                      λ q. f Reduce (sym q),
                      (λ q. f NewPassword (sym q), (λ q. f Join (sym q), tt)),
                    ),
                  ),
                ),
              ),
            ),
          ),
        ),
      ),
    )

-- ---- the calls

module _ (r : List ℕ) (s : Store) (m : List ℕ) where
  abbrev handle : List ℕ
  handle = field r 8 handle_bytes

  abbrev other : List ℕ
  other = field r 32 handle_bytes

  chosen : Kind → List ℕ → Bool → Performed
  chosen k b u =
      elim u [
        | true ↦ refused (first_of (misfit_rows (call k (arguments_of k r b)) (copy_of s m))) (bench s m b)
        | false ↦ stepped k (call k (arguments_of k r b)) (bench s m b)
      ]

  -- a call of the kind k, by arguments that agree with the record's in what k uses
  as_step : (k : Kind) (g : Arguments) (b : List ℕ) → misfits k r ≡ false
      → trimmed (uses k) g ≡ trimmed (uses k) (arguments_of k r b) → (o : Outcome) → o ≡ aes_step (call k g) (copy_of s m)
      → after_step k o (bench s m b) ≡ performed_as (some k) r (bench s m b)
  unfolding chosen
  as_step k g b t e o eo =
      ap (λ (p : Outcome). after_step k p (bench s m b))
      (eo ∙ unused_ignored product k g (arguments_of k r b) (copy_of s m) e)
      ∙ sym (ap (chosen k b) t)

  -- code that leaves these records and answers so leaves what the step leaves; a read alone has the buffer
  after_ended : (u : Store) (k : Kind) → among (5 ∷ []) k ≡ false → (n b : List ℕ) (a : answers.Answer) (w : List ℕ)
      → left u a n b ≡ after_step k (ended u n a w) (bench s m b)
  after_ended u k t n b a w =
      ap (λ (v : Bool). record {
        bench = record { copy = copy_of u n; buffer = elim v [ true ↦ w | false ↦ b ] };
        answer = plain a;
      }) (sym t)

  -- and so does code that gives the records back where the call is done
  after_finished : (k : Kind) → among (5 ∷ []) k ≡ false → (n b : List ℕ) (d : Result Done Number) (w : List ℕ)
      → ran s d n b ≡ after_step k (finished s n w d) (bench s m b)
  after_finished k t n b (Ok d) w = after_ended d.store k t n b (Ok d.given) w
  after_finished k t n b (Err x) w = after_ended s k t n b (Err x) w

  -- the ways of the code join
  pub joined : {d e : Result Done Number} {n l : List ℕ} (b : List ℕ) → d ≡ e → n ≡ l
      → ran s e l b ≡ performed r (bench s m b) → ran s d n b ≡ performed r (bench s m b)
  joined b p q h = (λ j. ran s (p j) (q j) b) ∙ h

  -- a record whose code is that of the call c
  module _ (c : Code) (v : ℕ) (ec : code_byte c ≡ v) (ev : v ≡ code_of r) where
    named : (k : Code) → c ≡ k → (kind : Kind) → kind_of (code_byte k) ≡ some kind → kind_of (code_of r) ≡ some kind
    named k q kind e = ap kind_of (sym ev ∙ sym ec ∙ ap code_byte q) ∙ e

    module _ (k : Code) (q : c ≡ k) (kind : Kind) (ek : kind_of (code_byte k) ≡ some kind) (t : misfits kind r ≡ false)
        (g : Arguments) (b : List ℕ) (eg : trimmed (uses kind) g ≡ trimmed (uses kind) (arguments_of kind r b)) where
      by_step : (o : Outcome) → o ≡ aes_step (call kind g) (copy_of s m) → after_step kind o (bench s m b) ≡ performed r (bench s m b)
      unfolding performed
      by_step o eo =
          as_step kind g b t eg o eo ∙ ap (λ (x : Option Kind). performed_as x r (bench s m b)) (sym (named k q kind ek))

      by_finished : among (5 ∷ []) kind ≡ false → (n : List ℕ) (d : Result Done Number) (w : List ℕ)
          → finished s n w d ≡ aes_step (call kind g) (copy_of s m) → ran s d n b ≡ performed r (bench s m b)
      by_finished u n d w ed = after_finished kind u n b d w ∙ by_step (finished s n w d) ed

      by_ended : among (5 ∷ []) kind ≡ false → (n : List ℕ) (a : answers.Answer) (w : List ℕ)
          → ended s n a w ≡ aes_step (call kind g) (copy_of s m) → left s a n b ≡ performed r (bench s m b)
      by_ended u n a w ea = after_ended s kind u n b a w ∙ by_step (ended s n a w) ea

    -- the calls that change records: d is how the code of one ends
    module _ (b : List ℕ) where
      pub perform_new_cluster : c ≡ NewCluster → (p q : List ℕ) (v l : ℕ) (d : Result Done Number)
          → finished s m [] d ≡ aes_step (making_cluster v l list_width p q) (copy_of s m) → p ≡ field r 32 password_bytes
          → q ≡ field r 48 password_bytes → v ≡ byte r 2 → l ≡ byte r 4 → ran s d m b ≡ performed r (bench s m b)
      unfolding kind_of
      perform_new_cluster e p q v l d ed ep eq ev el =
          by_finished NewCluster e new_cluster refl refl (making_cluster v l list_width p q).args b
          (λ j. (making_cluster (ev j) (el j) list_width (ep j) (eq j)).args) refl m d [] ed

      pub perform_new_password : c ≡ NewPassword → (w : ℕ) (h p : List ℕ) (d : Result Done Number)
          → finished s m [] d ≡ aes_step (renewing w h p) (copy_of s m) → w ≡ byte r 3 → h ≡ handle
          → p ≡ field r 32 password_bytes → ran s d m b ≡ performed r (bench s m b)
      unfolding kind_of
      perform_new_password e w h p d ed ew eh ep =
          by_finished NewPassword e new_password refl refl (renewing w h p).args b
          (λ j. (renewing (ew j) (eh j) (ep j)).args) refl m d [] ed

      module _ (h : List ℕ) (eh : h ≡ handle) where
        pub perform_delete_cluster : c ≡ DeleteCluster → (v : ℕ) (d : Result Done Number)
            → finished s m [] d ≡ aes_step (deleting_cluster v h) (copy_of s m) → v ≡ byte r 2
            → ran s d m b ≡ performed r (bench s m b)
        unfolding kind_of
        perform_delete_cluster e v d ed ev =
            by_finished DeleteCluster e delete_cluster refl refl (deleting_cluster v h).args b
            (λ j. (deleting_cluster (ev j) (eh j)).args) refl m d [] ed

        pub perform_new_segment : c ≡ NewSegment → (n : List ℕ) (v i z : ℕ) (d : Result Done Number)
            → finished s n [] d ≡ aes_step (making_segment v i z h) (copy_of s m) → v ≡ byte r 2 → i ≡ byte r 4
            → z ≡ byte r 6 * 256 + byte r 7 → ran s d n b ≡ performed r (bench s m b)
        unfolding kind_of
        perform_new_segment e n v i z d ed ev ei ez =
            by_finished NewSegment e new_segment refl refl (making_segment v i z h).args b
            (λ j. (making_segment (ev j) (ei j) (ez j) (eh j)).args) refl n d [] ed

        pub perform_delete_segment : c ≡ DeleteSegment → (v i : ℕ) (d : Result Done Number)
            → finished s m [] d ≡ aes_step (deleting_segment v i h) (copy_of s m) → v ≡ byte r 2 → i ≡ byte r 4
            → ran s d m b ≡ performed r (bench s m b)
        unfolding kind_of
        perform_delete_segment e v i d ed ev ei =
            by_finished DeleteSegment e delete_segment refl refl (deleting_segment v i h).args b
            (λ j. (deleting_segment (ev j) (ei j) (eh j)).args) refl m d [] ed

        pub perform_freeze : c ≡ Freeze → (v i : ℕ) (d : Result Done Number)
            → finished s m [] d ≡ aes_step (freezing v i h) (copy_of s m) → v ≡ byte r 2 → i ≡ byte r 4
            → ran s d m b ≡ performed r (bench s m b)
        unfolding kind_of
        perform_freeze e v i d ed ev ei =
            by_finished Freeze e freeze refl refl (freezing v i h).args b
            (λ j. (freezing (ev j) (ei j) (eh j)).args) refl m d [] ed

    -- the calls that leave the records: a is what is answered
    module _ (b h : List ℕ) (eh : h ≡ handle) (a : answers.Answer) where
      pub perform_read : c ≡ Read → (i : ℕ) (w : List ℕ) → ended s m a w ≡ aes_step (reading i h b) (copy_of s m)
          → i ≡ byte r 4 → left s a m w ≡ performed r (bench s m b)
      unfolding kind_of
      perform_read e i w ea ei =
          by_step Read e read refl refl (reading i h b).args b (λ j. (reading (ei j) (eh j) b).args) (ended s m a w) ea

      pub perform_write : c ≡ Write → (z : ℕ) → z ≡ data_length r → z ≤ most_data → (n w : List ℕ) (i : ℕ)
          → ended s n a w ≡ aes_step (writing i h w) (copy_of s m) → w ≡ field r 32 (data_length r) → i ≡ byte r 4
          → left s a n b ≡ performed r (bench s m b)
      unfolding kind_of
      perform_write e z ez lz n w i ea ew ei =
          by_ended Write e write refl (ap (ltb most_data) (sym ez) ∙ le-ltb most_data z lz) (writing i h w).args b
          (λ j. (writing (ei j) (eh j) (ew j)).args) refl n a w ea

      pub perform_weaken : c ≡ Weaken → (k : ℕ)
          → ((t : Store) (n : List ℕ) → ended t n a [] ≡ aes_step (weakening_by k h) (copy_of t n)) → k ≡ byte r 4
          → left s a m b ≡ performed r (bench s m b)
      unfolding kind_of
      perform_weaken e k f ek =
          by_ended Weaken e weaken refl refl (weakening_by k h).args b (λ j. (weakening_by (ek j) (eh j)).args) refl m a []
          (f s m)

      pub perform_reduce : c ≡ Reduce → (w : ℕ) → ended s m a [] ≡ aes_step (reducing w h) (copy_of s m) → w ≡ byte r 3
          → left s a m b ≡ performed r (bench s m b)
      unfolding kind_of
      perform_reduce e w ea ew =
          by_ended Reduce e reduce refl refl (reducing w h).args b (λ j. (reducing (ew j) (eh j)).args) refl m a [] ea

      pub perform_join : c ≡ Join → (w : ℕ) (o : List ℕ) → ended s m a [] ≡ aes_step (joining w h o) (copy_of s m)
          → w ≡ byte r 3 → o ≡ other → left s a m b ≡ performed r (bench s m b)
      unfolding kind_of
      perform_join e w o ea ew eo =
          by_ended Join e join refl refl (joining w h o).args b (λ j. (joining (ew j) (eh j) (eo j)).args) refl m a [] ea

  -- ---- no call, and a write that misfits

  pub perform_unknown : (v : ℕ) → v ≡ code_of r → ((c : Code) → code_byte c ≡ v → ⊥) → (b : List ℕ)
      → refused 3 (bench s m b) ≡ performed r (bench s m b)
  unfolding performed
  perform_unknown v ev f b =
      ap (λ (k : Option Kind). performed_as k r (bench s m b)) (sym (no_kind v f) ∙ ap kind_of ev)

  pub misfit_refused : code_of r ≡ 6 → (z : ℕ) → z ≡ data_length r → most_data < z → (b : List ℕ)
      → refused (first_of (misfit_rows (writing 0 handle []) (copy_of s m))) (bench s m b) ≡ performed r (bench s m b)
  unfolding performed kind_of bad_length unsound no_place chosen
  misfit_refused e z ez l b =
      sym (ap (chosen write b) (ap (ltb most_data) (sym ez) ∙ lt-ltb most_data z l))
      ∙ sym (ap (λ (k : ℕ). performed_as (kind_of k) r (bench s m b)) e)

  pub perform_misfit : (c : Code) (v : ℕ) → code_byte c ≡ v → v ≡ code_of r → c ≡ Write → (z : ℕ) → z ≡ data_length r
      → most_data < z → (h : List ℕ) → h ≡ handle → (x : Number)
      → number x ≡ first_of (misfit_rows (writing 0 h []) (copy_of s m)) → (b : List ℕ)
      → left s (Err x) m b ≡ performed r (bench s m b)
  perform_misfit c v ec ev q z ez l h eh x ex b =
      ap (λ (k : ℕ). refused k (bench s m b))
      (ex ∙ ap (λ (w : List ℕ). first_of (misfit_rows (writing 0 w []) (copy_of s m))) eh)
      ∙ misfit_refused (sym ev ∙ sym ec ∙ ap code_byte q) z ez l b

-- ---- the number of a misfit

module _ (s : Store) (m b : List ℕ) (long : length b ≡ handle_bytes) (h : Handle) (eh : h ≡ decoded b) (sd : Bool)
    (es : sd ≡ sound s (length m)) where
  abbrev first : ℕ
  first = first_of (misfit_rows (writing 0 b []) (copy_of s m))

  told : first ≡ cond (not sd) 1 (cond (no_such_place h) 2 3)
  unfolding bad_length unsound no_place
  told =
      simp or-false
      (ap (λ (w : ℕ). cond (eqb w 0) 25 (cond (not (sound s (length m))) 1 (cond (no_such_place (decoded b)) 2 3)))
      (width_eight b long)
      ∙ sym (ap₂ (λ (t : Bool) (g : Handle). cond (not t) 1 (cond (no_such_place g) 2 3)) es eh))

  pub misfit_unsound : not sd ≡ true → 1 ≡ first
  misfit_unsound t = sym (told ∙ ap (λ (u : Bool). cond u 1 (cond (no_such_place h) 2 3)) t)

  module _ (t : not sd ≡ false) where
    rest : first ≡ cond (no_such_place h) 2 3
    rest = told ∙ ap (λ (u : Bool). cond u 1 (cond (no_such_place h) 2 3)) t

    module _ (v : ℕ) (ev : v ≡ node_of h) where
      pub misfit_node : nodes ≤ v → 2 ≡ first
      misfit_node l =
          sym (rest ∙ ap (λ (u : Bool). cond (u || leb clusters h.local) 2 3) (le-leb nodes (node_of h) (omega (arith, ev))))

      module _ (n : v < nodes) where
        local : (u : Bool) → leb clusters h.local ≡ u → first ≡ cond u 2 3
        local u e = rest ∙ ap₂ (λ (x y : Bool). cond (x || y) 2 3) (lt-leb nodes (node_of h) (omega (arith, ev))) e

        pub misfit_local : clusters ≤ h.local → 2 ≡ first
        misfit_local l = sym (local true (le-leb clusters h.local l))

        pub misfit_field : h.local < clusters → 3 ≡ first
        misfit_field l = sym (local false (lt-leb clusters h.local l))
