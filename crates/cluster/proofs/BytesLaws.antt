-- Reading and writing: refused, or done, where the place that was looked up is that of the segment that the call is about.
-- Assumes nothing.
use mathlib.Core.Path.{◌≡◌, refl, sym, ap, ap₂, ◌∙◌}
use mathlib.Core.Bool.{Bool, false}
use mathlib.Core.List.{List, ◌++◌}
use Prim.Native.Nat.{ℕ, ◌+◌, ◌<◌}
use native.Mathlib.Omega.{arith}
use lib.Dec.{leb}
use lib.ListN.{length, take, drop}
use Rattle.std.specs.Prelude.{Result, Ok, Err}
use Rattle.std.specs.Result.{IsErrAnd}
use Rattle.numbers.specs.declared.Number.{Number}
use Rattle.numbers.specs.declared.Number.TheVariants.{Unsound}
use Rattle.numbers.specs.Codes.{told}
use Rattle.handle.specs.declared.Handle.{Handle}
use Rattle.handle.specs.Handles.{node_of, width_of, first_of}
use Rattle.handle.specs.Conversion.{product}
use Rattle.store.specs.Places.{Place}
use Rattle.store.specs.declared.Cluster.{Cluster}
use Rattle.store.specs.declared.Store.{Store}
use Rattle.store.specs.Records.{table_of, table_at, place_of, frozen_of, base_of, length_of, address, read_mode, write_mode}
use Rattle.calls.specs.declared.Given.TheVariants as gives
use Rattle.calls.specs.Calls.{Call, buffer, record_named, reading, writing}
use Rattle.calls.specs.Numbers.{number}
use Rattle.calls.specs.Steps.{plain, overwritten, aes_step, left, given, segment_read, segment_written}
use Rattle.calls.specs.Answers.{Answer, copy_of, ended}
use Rattle.calls.proofs.StepLaws.{step_done}
use Rattle.numbers.proofs.ToldLaws.{told_ok}
use Rattle.refusals.specs.Rows.{shared_rows}
use Rattle.refusals.specs.Given.{Given}
use Rattle.refusals.proofs.AfterLaws.{first_append}
use Rattle.refusals.proofs.GivenLaws.{judged, shown, found, by_given, shared_numbered}
use Rattle.cluster.specs.inner.Access.{access_rows, accessed}
use Rattle.cluster.proofs.NumberLaws.{number_read, number_write}
use Rattle.cluster.proofs.CoreLaws.{exit_alone}
use Rattle.cluster.proofs.AccessLaws.{access_there, access_inside}

module _ (s : Store) (m b : List ℕ) (i : ℕ) (d : List ℕ) {X : Type 0} (r : Result X Number) where
  abbrev k : Handle
  k = shown s m b

  abbrev e : Cluster
  e = found s m b

  abbrev q : Place
  q = place_of (table_of e) i

  -- ---- what the two share: the place that was looked up, and the number told of it

  module _ (mode : ℕ) (icy : Cluster → Bool) (p : Place) (ep : p ≡ q) (kept : Bool) (ek : kept ≡ icy e)
      (en : told r ≡ accessed (judged s m b) k e p i kept (length d) mode) where
    known : told r ≡ accessed (judged s m b) k e q i (icy e) (length d) mode
    known = en ∙ ap₂ (λ (o : Place) (t : Bool). accessed (judged s m b) k e o i t (length d) mode) ep ek

    number_is : (x : Call)
        → number product x s (length m)
        ≡ first_of (shared_rows (judged s m b) k e false (leb (width_of k) i) false mode ++ access_rows k q i (icy e) (length d))
        → number product x s (length m) ≡ told r
    unfolding accessed
    number_is x t =
        t
        ∙ first_append (shared_rows (judged s m b) k e false (leb (width_of k) i) false mode) (access_rows k q i (icy e) (length d))
        (shared_numbered (judged s m b) k e false (leb (width_of k) i) false mode)
        ∙ sym known

    module _ (z : told r ≡ 0) (from size : ℕ) (ef : from ≡ address (node_of k) (base_of p)) (el : size ≡ length_of p) where
      there : p ≡ place_of (table_at s (record_named k)) i
      there =
          ep ∙ ap (λ (j : ℕ). place_of (table_at s j) i) (access_there s m b i (icy e) (length d) mode (told r) known z)

      starts : from ≡ address (node_of k) (base_of (place_of (table_at s (record_named k)) i))
      starts = ef ∙ ap (λ (o : Place). address (node_of k) (base_of o)) there

      long : size ≡ length_of (place_of (table_at s (record_named k)) i)
      long = el ∙ ap length_of there

      never : length m < from + size → ⊥
      never t =
          let w = access_inside s m b i (icy e) (length d) mode (told r) known z in
          let f = ef ∙ ap (λ (o : Place). address (node_of k) (base_of o)) ep in
          let l = el ∙ ap length_of ep in
          omega arith

  -- ---- from what a core is given

  abbrev Ends : Call → List ℕ → Answer → List ℕ → Type 0
  Ends x after a buf = ended s after a buf ≡ aes_step x (copy_of s m)

  -- R of the place that was looked up, once the number is told of it; of the part that begins and ends there, where it is 0.
  -- Whether row 22 applies is told by icy, of the record: a read alters nothing, a write may not alter what is frozen
  abbrev Accesses : ℕ → (Cluster → Bool) → (Place → Handle → Type 0) → Bool → Handle → Cluster → Type 0
  Accesses mode icy R sd h c =
      (p : Place) → p ≡ place_of (table_of c) i → (kept : Bool) → kept ≡ icy c
      → told r ≡ accessed sd h c p i kept (length d) mode → R p h

  abbrev never_kept : Cluster → Bool
  never_kept c = false

  abbrev frozen_kept : Cluster → Bool
  frozen_kept c = frozen_of (table_of c) i

  abbrev Moves : (ℕ → ℕ → Type 0) → Place → Handle → Type 0
  Moves R p h =
      (x : X) → r ≡ Ok x → (from : ℕ) → from ≡ address (node_of h) (base_of p) → (size : ℕ) → size ≡ length_of p → R from size

  abbrev Refuses : ℕ → (Cluster → Bool) → Call → Bool → Handle → Cluster → Type 0
  Refuses mode icy x =
      Accesses mode icy (λ p h. (n : Number) → r ≡ Err n → (a : Answer) → IsErrAnd a (λ k. k ≡ n) → Ends x m a d)

  abbrev Beyond : ℕ → (Cluster → Bool) → Call → Bool → Handle → Cluster → Type 0
  Beyond mode icy x = Accesses mode icy (Moves (λ from size. length m < from + size → Ends x m (Err Unsound) d))

  abbrev Reads : Bool → Handle → Cluster → Type 0
  Reads =
      Accesses read_mode never_kept
      (Moves (λ from size. (buffer : List ℕ) → buffer ≡ take size (drop from m) ++ drop size d
      → Ends (reading i b d) m (Ok (gives.Length size)) buffer))

  abbrev Writes : Bool → Handle → Cluster → Type 0
  Writes =
      Accesses write_mode frozen_kept
      (Moves (λ from size. (after : List ℕ) → after ≡ overwritten m from (take size d)
      → Ends (writing i b d) after (Ok gives.Nothing) d))

  module _ (sd : Bool) (h : Handle) (c : Cluster) (g : Given sd h c s m b) where
    refused : (mode : ℕ) (icy : Cluster → Bool) (x : Call) → d ≡ buffer x
        → number product x s (length m)
        ≡ first_of (shared_rows (judged s m b) k e false (leb (width_of k) i) false mode ++ access_rows k q i (icy e) (length d))
        → Refuses mode icy x sd h c
    refused mode icy x buf tells =
        by_given s m b (Refuses mode icy x) sd h c g
        (λ p ep kept ek en n t a w.
        ap (ended s m a) buf ∙ exit_alone x s m r (number_is mode icy p ep kept ek en x tells) n t a w)

    beyond : (mode : ℕ) (icy : Cluster → Bool) (x : Call) → Beyond mode icy x sd h c
    beyond mode icy x =
        by_given s m b (Beyond mode icy x) sd h c g
        (λ p ep kept ek en y z from ef size el t.
        absurd (never mode icy p ep kept ek en (told_ok r y z) from size ef el t))

    -- ---- call 5

    pub read_refused : Refuses read_mode never_kept (reading i b d) sd h c
    read_refused = refused read_mode never_kept (reading i b d) refl (number_read s m b i d)

    pub read_beyond : Beyond read_mode never_kept (reading i b d) sd h c
    read_beyond = beyond read_mode never_kept (reading i b d)

    pub read_done : Reads sd h c
    unfolding left given segment_read
    read_done =
        by_given s m b Reads sd h c g
        (λ p ep kept ek en y z from ef size el buffer eb.
        ap (ended s m (Ok (gives.Length size))) eb
        ∙ ap₂ (λ (j o : ℕ). ended s m (Ok (gives.Length o)) (take o (drop j m) ++ drop o d))
        (starts read_mode never_kept p ep kept ek en (told_ok r y z) from size ef el)
        (long read_mode never_kept p ep kept ek en (told_ok r y z) from size ef el)
        ∙ sym (step_done product (reading i b d) (copy_of s m)
        (number_is read_mode never_kept p ep kept ek en (reading i b d) (number_read s m b i d) ∙ told_ok r y z)))

    -- ---- call 6

    pub write_refused : Refuses write_mode frozen_kept (writing i b d) sd h c
    write_refused = refused write_mode frozen_kept (writing i b d) refl (number_write s m b i d)

    pub write_beyond : Beyond write_mode frozen_kept (writing i b d) sd h c
    write_beyond = beyond write_mode frozen_kept (writing i b d)

    pub write_done : Writes sd h c
    unfolding left given segment_written
    write_done =
        by_given s m b Writes sd h c g
        (λ p ep kept ek en y z from ef size el after et.
        ap (λ (l : List ℕ). ended s l (Ok gives.Nothing) d) et
        ∙ ap₂ (λ (j o : ℕ). record { copy = copy_of s (overwritten m j (take o d)); reply = plain 0 d })
        (starts write_mode frozen_kept p ep kept ek en (told_ok r y z) from size ef el)
        (long write_mode frozen_kept p ep kept ek en (told_ok r y z) from size ef el)
        ∙ sym (step_done product (writing i b d) (copy_of s m)
        (number_is write_mode frozen_kept p ep kept ek en (writing i b d) (number_write s m b i d) ∙ told_ok r y z)))
