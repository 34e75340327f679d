-- What the check of a list says: past the length it is the way from record 1, whose answers mean what the table says. And
-- which bytes of a record count: those of the arguments that its call uses.
-- Assumes nothing.
use mathlib.Core.Path.{◌≡◌, refl, sym, ap, ◌∙◌, subst}
use mathlib.Core.Logic.{◌↔◌, ◌⊎◌, inl, inr}
use Prim.Native.Nat.{ℕ, ◌%◌, ◌<◌}
use native.Mathlib.Omega.{arith}
use mathlib.Core.Bool.{Bool, true, false, not, ◌&&◌, ◌||◌, cond, or-false, true≢false}
use mathlib.Core.List.{List, [], ◌∷◌, ◌++◌}
use mathlib.Core.Option.{Option, none, some}
use borrow.Author.Tests.{lt-ltb, ne_eqb, ltb-true, leb-true, leb-false, eqb-true, eqb-false}
use lib.Dec.{eqb, leb, ltb}
use lib.ListN.{length}
use Rattle.handle.specs.Handles.{Row, first_of, decoded}
use Rattle.handle.specs.Conversion.{product}
use Rattle.store.specs.declared.Store.{Store}
use Rattle.store.specs.Sound.{sound}
use Rattle.calls.specs.Calls.{Copy, Kind, new_cluster, delete_cluster, new_segment, delete_segment, read, write, weaken}
use Rattle.calls.specs.Calls.{reduce, new_password, freeze, join, validate, look, code, is_look, among, Arguments, call, uses, writing}
use Rattle.calls.specs.Numbers.{bad_length as wrong_length, unsound, no_place}
use Rattle.calls.specs.Steps.{Outcome}
use Rattle.calls.specs.Answers.{copy_of}
use Rattle.chain.specs.Way.{Walked}
use Rattle.numbers.specs.Numbers.{link_number, loop_number}
use Rattle.chain.specs.Way.{done}
use Rattle.chain.specs.Means.{Whole, Leaves, Again}
use Rattle.chain.specs.Bytes.{count, next_in, way_in}
use Rattle.chain.proofs.MeansLaws.{means}
use Rattle.isolation.specs.Checks.{trimmed}
use Rattle.isolation.proofs.UnusedLaws.{unused_ignored}
use Rattle.list.specs.Records.{record_bytes, most_bytes, most_data, byte, field, code_of, own_calls, other_calls}
use Rattle.list.specs.Records.{kind_among, kind_of, arguments_of}
use Rattle.list.specs.Runs.{Bench, Performed, misfits, misfit_rows, refused, after_step, stepped, performed_as}
use Rattle.list.specs.Runs.{performed}
use Rattle.list.specs.Texts.{bad_length, checked, text_of, output}
use Rattle.list.specs.Meanings.{ListMeans, LongRefused, LengthInWords, UnusedBytes, BadCode}
use Rattle.list.specs.Meanings.{NoLook, MisfitInWords}
use Rattle.calls.proofs.CallLaws.{or_left, or_right}
use Rattle.list.proofs.FieldLaws.{handle_long}
use Rattle.list.proofs.CheckLaws.{by_length, check_empty}
use Rattle.list.proofs.PerformLaws.{misfit_refused, misfit_unsound, misfit_node, misfit_local}
use Rattle.list.proofs.PerformLaws.{misfit_field, differ, among_first}

-- ---- the check

module _ (list : List ℕ) where
  abbrev n : ℕ
  n = count list record_bytes

  abbrev next : ℕ → ℕ
  next = next_in list record_bytes

  is_way : bad_length (length list) ≡ false → (length list ≡ 0 → ⊥) → way_in list record_bytes 1 ≡ checked list
  is_way e t =
      sym
      (by_length list false e
      ∙ ap (λ (u : Bool). cond u (done 0) (way_in list record_bytes 1)) (ne_eqb (length list) 0 t))

  pub list_means : ListMeans list
  list_means =
      record {
        no_list = λ e. by_length list true e;
        empty = λ z. sym (check_empty list (omega arith) (omega arith) z);
        whole = λ e t m. subst (λ (w : Walked). (w ≡ done m) ↔ Whole n next 1 m) (is_way e t) ((means n next 1).whole m);
        leaves = λ e t. subst (λ (w : Walked). (w.number ≡ link_number) ↔ Leaves n next 1) (is_way e t) (means n next 1).leaves;
        again = λ e t. subst (λ (w : Walked). (w.number ≡ loop_number) ↔ Again n next 1) (is_way e t) (means n next 1).again;
      }

either : (t : Bool) {u : Bool} → u ≡ true → (t || u) ≡ true
either true e = refl
either false e = e

pub long_refused : LongRefused
unfolding output bad_length
long_refused list h =
    ap (λ (w : Walked). text_of list w.number w.records)
    ((list_means list).no_list (either (not (eqb (length list % record_bytes) 0)) (lt-ltb most_bytes (length list) h)))

pub length_in_words : LengthInWords
unfolding bad_length
length_in_words n = (told (eqb (n % 64) 0) refl, tells)
  where
    told : (t : Bool) → eqb (n % 64) 0 ≡ t → (not t || ltb 16320 n) ≡ true → (n % 64 ≡ 0 → ⊥) ⊎ (16320 < n)
    told true e l = inr (ltb-true 16320 n l)
    told false e l = inl (eqb-false (n % 64) 0 e)

    tells : (n % 64 ≡ 0 → ⊥) ⊎ (16320 < n) → bad_length n ≡ true
    tells (inl t) = ap (λ (u : Bool). not u || ltb 16320 n) (ne_eqb (n % 64) 0 t)
    tells (inr l) = either (not (eqb (n % 64) 0)) (lt-ltb 16320 n l)

-- ---- the bytes of a record

-- the kind that a code names has that code
abbrev picked : Bool → Kind → Option Kind → Option Kind
picked t k o = elim t [ true ↦ some k | false ↦ o ]

abbrev Named : ℕ → Option Kind → Type 0
Named c none = Unit {0}
Named c (some k) = code k ≡ c

named : (ks : List Kind) (c : ℕ) → Named c (kind_among ks c)
named [] c = tt
named (j ∷ js) c = go (eqb (code j) c) refl (named js c)
  where
    go : (t : Bool) → eqb (code j) c ≡ t → Named c (kind_among js c) → Named c (picked t j (kind_among js c))
    go true e h = eqb-true (code j) c e
    go false e h = h

-- byte 5 counts for a write alone
misfits_same : (k : Kind) (r q : List ℕ) → kind_of (code_of r) ≡ some k → (byte r 1 ≡ 6 → byte r 5 ≡ byte q 5)
    → misfits k r ≡ misfits k q
unfolding kind_of
misfits_same k r q e d = go (among (6 ∷ []) k) refl
  where
    coded : code k ≡ byte r 1
    coded = subst (Named (byte r 1)) e (named (own_calls ++ other_calls) (byte r 1))

    go : (t : Bool) → among (6 ∷ []) k ≡ t → misfits k r ≡ misfits k q
    go true a =
        ap (λ (n : ℕ). among (6 ∷ []) k && ltb most_data n)
        (d (sym coded ∙ eqb-true (code k) 6 (sym (or-false (eqb (code k) 6)) ∙ a)))
    go false a =
        ap (λ (t : Bool). t && ltb most_data (byte r 5)) a ∙ sym (ap (λ (t : Bool). t && ltb most_data (byte q 5)) a)

-- the rows above row 3 look at used arguments alone
rows_trimmed : (k : Kind) (g : Arguments) (c : Copy)
    → misfit_rows (call k g) c ≡ misfit_rows (call k (trimmed (uses k) g)) c
unfolding wrong_length unsound no_place
rows_trimmed new_cluster g c = refl
rows_trimmed delete_cluster g c = refl
rows_trimmed new_segment g c = refl
rows_trimmed delete_segment g c = refl
rows_trimmed read g c = refl
rows_trimmed write g c = refl
rows_trimmed weaken g c = refl
rows_trimmed reduce g c = refl
rows_trimmed new_password g c = refl
rows_trimmed freeze g c = refl
rows_trimmed join g c = refl
rows_trimmed validate g c = refl
rows_trimmed look g c = refl

pub unused_bytes : UnusedBytes
unfolding performed
unused_bytes k r q b e s =
    ap (λ (o : Option Kind). performed_as o r b) e ∙ branches (misfits k r) ∙ ap (chosen q) (misfits_same k r q e s.data_lengths)
    ∙ ap (λ (o : Option Kind). performed_as o q b) (sym e ∙ ap kind_of s.codes)
  where
    asked : List ℕ → Arguments
    asked z = arguments_of k z b.buffer

    chosen : List ℕ → Bool → Performed
    chosen z u =
        elim u [
          | true ↦ refused (first_of (misfit_rows (call k (asked z)) b.copy)) b
          | false ↦ stepped k (call k (asked z)) b
        ]

    rows_same : misfit_rows (call k (asked r)) b.copy ≡ misfit_rows (call k (asked q)) b.copy
    rows_same =
        rows_trimmed k (asked r) b.copy
        ∙ ap (λ (g : Arguments). misfit_rows (call k g) b.copy) s.arguments
        ∙ sym (rows_trimmed k (asked q) b.copy)

    branches : (u : Bool) → chosen r u ≡ chosen q u
    branches true = ap (λ (rs : List Row). refused (first_of rs) b) rows_same
    branches false =
        ap (λ (o : Outcome). after_step k o b)
        (unused_ignored product k (asked r) (asked q) b.copy s.arguments)

-- a code outside 1 to 11 is that of no kind
outside : (c : ℕ) → (c ≡ 0) ⊎ (11 < c) → kind_of c ≡ none
unfolding kind_of
outside c h =
    among_first own_calls other_calls c (
      out 5 refl refl,
      (out 6 refl refl, (out 7 refl refl, (out 8 refl refl, (out 9 refl refl, (out 11 refl refl, tt))))),
    )
    ∙ differ own_calls c
    (out 1 refl refl, (out 2 refl refl, (out 3 refl refl, (out 4 refl refl, (out 10 refl refl, tt)))))
  where
    out : (k : ℕ) → leb 1 k ≡ true → leb k 11 ≡ true → c ≡ k → ⊥
    out k a b e = go h
      where
        go : (c ≡ 0) ⊎ (11 < c) → ⊥
        go (inl z) = let l = leb-true 1 k a in omega (arith, e)
        go (inr z) = let l = leb-true k 11 b in omega (arith, e)

pub bad_code : BadCode
unfolding performed
bad_code r b h = ap (λ (o : Option Kind). performed_as o r b) (outside (code_of r) h)

-- a kind that a list without a look gives is none
abbrev some_look : List Kind → Bool
some_look [] = false
some_look (k ∷ ks) = is_look k || some_look ks

abbrev Other : Option Kind → Type 0
Other none = Unit {0}
Other (some k) = is_look k ≡ false

other : (ks : List Kind) → some_look ks ≡ false → (c : ℕ) → Other (kind_among ks c)
other [] e c = tt
other (j ∷ js) e c = go (eqb (code j) c) (other js (or_right (is_look j) (some_look js) e) c)
  where
    go : (t : Bool) → Other (kind_among js c) → Other (picked t j (kind_among js c))
    go true h = or_left (is_look j) (some_look js) e
    go false h = h

pub no_look : NoLook
unfolding kind_of
no_look c e = true≢false (subst Other e (other (own_calls ++ other_calls) refl c))

-- ---- a write's data length above 32

module _ (r : List ℕ) (b : Bench) (long : length r ≡ record_bytes) where
  abbrev s : Store
  s = b.copy.store

  abbrev m : List ℕ
  m = b.copy.memory

  abbrev h : List ℕ
  h = field r 8 23

  abbrev first : ℕ
  first = first_of (misfit_rows (writing 0 h []) (copy_of s m))

  refused_with_lem : byte r 1 ≡ 6 → 32 < byte r 5 → (n : ℕ) → n ≡ first → performed r b ≡ refused n b
  refused_with_lem e l n en =
      sym (ap (λ (k : ℕ). refused k b) en ∙ misfit_refused r s m e (byte r 5) refl l b.buffer)

  unsound_told : not (sound s (length m)) ≡ true → 1 ≡ first
  unsound_told = misfit_unsound s m h (handle_long r long) (decoded h) refl (sound s (length m)) refl

  module _ (t : not (sound s (length m)) ≡ false) where
    node_above : 3 < (decoded h).node → 2 ≡ first
    node_above = misfit_node s m h (handle_long r long) (decoded h) refl (sound s (length m)) refl t (decoded h).node refl

    module _ (n : (decoded h).node < 4) where
      local_above : 7 < (decoded h).local → 2 ≡ first
      local_above = misfit_local s m h (handle_long r long) (decoded h) refl (sound s (length m)) refl t (decoded h).node refl n

      neither_above : (decoded h).local < 8 → 3 ≡ first
      neither_above = misfit_field s m h (handle_long r long) (decoded h) refl (sound s (length m)) refl t (decoded h).node refl n

    either_above : (3 < (decoded h).node) ⊎ (7 < (decoded h).local) → 2 ≡ first
    either_above (inl p) = node_above p
    either_above (inr p) = go (leb 4 (decoded h).node) refl
      where
        go : (u : Bool) → leb 4 (decoded h).node ≡ u → 2 ≡ first
        go true e = node_above (leb-true 4 (decoded h).node e)
        go false e = local_above (leb-false 4 (decoded h).node e) p

pub misfit_in_words : MisfitInWords
misfit_in_words r b z e l =
    record {
      unsound = λ t. refused_with_lem r b z e l 1 (unsound_told r b z (ap not t));
      no_place = λ t p. refused_with_lem r b z e l 2 (either_above r b z (ap not t) p);
      misfit = λ t n k. refused_with_lem r b z e l 3 (neither_above r b z (ap not t) (omega arith) (omega arith));
    }
