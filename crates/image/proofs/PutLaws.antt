-- A record written over one of an image. The bytes of every other record are as they were, so the image of a store becomes
-- that of the store with this record replaced.
-- Assumes nothing.
use mathlib.Core.Path.{◌≡◌, refl, sym, ap, ◌∙◌}
use mathlib.Core.Logic.{◌⊎◌, inl, inr}
use mathlib.Core.Bool.{Bool, true, false}
use mathlib.Core.List.{List, ◌++◌}
use Prim.Native.Nat.{ℕ, ◌+◌, ◌*◌, ◌-◌, ◌≤◌, ◌<◌}
use native.Mathlib.Omega.{arith}
use mir.Syntax.{w8}
use mir.Val.{Fits}
use borrow.Author.Tests.{eqb-true, eqb-false, ne_eqb, ltb-true, ltb-false}
use borrow.Rule.Slice.PartMut.{put_mid, mid_of, post_of, same_len_mid, mid_len, take_put, drop_put}
use lib.Dec.{eqb, ltb}
use lib.ListN.{length, get_or, take, drop}
use lib.Seq.{ext_get_or, get_or-take, get_or-drop, take_at, drop_at, length-take-le}
use Rattle.bits.specs.Bytes.{Bytes}
use Rattle.loops.proofs.BelowLaws.{every_at}
use Rattle.loops.proofs.TabulateLaws.{length_tabulate}
use Rattle.sizes.specs.Sizes.{records}
use Rattle.store.specs.declared.Cluster.{Cluster}
use Rattle.store.specs.Records.{cluster_at, put_record}
use Rattle.store.proofs.ChangeLaws.{put_same, put_other}
use Rattle.image.specs.Parts.{slot}
use Rattle.image.specs.Images.{record_bytes, image_bytes, cluster_in, good_record, store_in, good, record_out, image_of, with_record}
use Rattle.image.proofs.PartLaws.{width, length_slot, bytes_slot, joined_same, joined_slots}
use Rattle.image.proofs.TripLaws.{record_back}
use Rattle.image.proofs.ReadLaws.{cluster_at_lem}

-- ---- the bytes

module _ (b x : List ℕ) (n : ℕ) (long : length b ≡ image_bytes) (h : n < records) (lx : length x ≡ record_bytes) where
  abbrev from : ℕ
  from = n * record_bytes

  abbrev to : ℕ
  to = n * record_bytes + record_bytes

  -- the image as the code leaves it
  abbrev after : List ℕ
  after = put_mid from (to - from) b x

  after_length : length after ≡ image_bytes
  after_length =
      same_len_mid from (to - from) b x
      (lx ∙ sym (mid_len from to b (omega (arith, long, h)) ∙ width from record_bytes))
      ∙ long

  kept : (p : ℕ) → (p < from) ⊎ (to ≤ p) → get_or after p 0 ≡ get_or b p 0
  kept p (inl q) =
      sym (get_or-take from after p 0 q)
      ∙ ap (λ (l : List ℕ). get_or l p 0) (take_put from (to - from) b x (omega (arith, long, h)))
      ∙ get_or-take from b p 0 q
  kept p (inr q) =
      let e : p ≡ to + (p - to) = omega (arith, q) in
      ap (λ (k : ℕ). get_or after k 0) e
      ∙ sym (get_or-drop to after (p - to) 0)
      ∙ ap (λ (l : List ℕ). get_or l (p - to) 0)
      (drop_put from to b x (omega arith) (omega (arith, long, h)) (lx ∙ sym (width from record_bytes)))
      ∙ get_or-drop to b (p - to) 0
      ∙ ap (λ (k : ℕ). get_or b k 0) (sym e)

  slot_same : slot record_bytes after n ≡ x
  slot_same =
      ap (take (to - from))
      (drop_at (take from b) (x ++ post_of from (to - from) b) from (length-take-le from b (omega (arith, long, h))))
      ∙ take_at x (post_of from (to - from) b) (to - from) (lx ∙ sym (width from record_bytes))

  slot_other : (k : ℕ) → k < records → (k ≡ n → ⊥) → slot record_bytes after k ≡ slot record_bytes b k
  slot_other k l d =
      ext_get_or 0 (slot record_bytes after k) (slot record_bytes b k)
      (length_slot record_bytes after records k after_length l ∙ sym (length_slot record_bytes b records k long l))
      (λ i m. let j : i < record_bytes = below i m in
      get_or-take (k * record_bytes + record_bytes - k * record_bytes) (drop (k * record_bytes) after) i 0 (omega (arith, j))
      ∙ get_or-drop (k * record_bytes) after i 0
      ∙ kept (k * record_bytes + i) (beside i j (ltb k n) refl)
      ∙ sym (get_or-take (k * record_bytes + record_bytes - k * record_bytes) (drop (k * record_bytes) b) i 0 (omega (arith, j))
      ∙ get_or-drop (k * record_bytes) b i 0))
    where
      below : (i : ℕ) → i < length (slot record_bytes after k) → i < record_bytes
      below i m = let e = length_slot record_bytes after records k after_length l in omega (arith, e, m)

      beside : (i : ℕ) → i < record_bytes → (t : Bool) → ltb k n ≡ t
          → (k * record_bytes + i < from) ⊎ (to ≤ k * record_bytes + i)
      beside i j true q = let a = ltb-true k n q in inl (omega (arith, a, j))
      beside i j false q = let a = ltb-false k n q in inr (omega (arith, over k n a d))
        where
          over : (x y : ℕ) → y ≤ x → (x ≡ y → ⊥) → y + 1 ≤ x
          over x y p q = omega (arith, p, q)

  with_slot : (c : Cluster) → x ≡ record_out c → put_mid from (to - from) b x ≡ with_record b n c
  unfolding with_record
  with_slot c e =
      sym (joined_slots record_bytes records after after_length)
      ∙ joined_same records (slot record_bytes after) _ (λ k l. each k l (eqb k n) refl)
    where
      each : (k : ℕ) → k < records → (t : Bool) → eqb k n ≡ t
          → slot record_bytes after k ≡ elim t [ true ↦ record_out c | false ↦ slot record_bytes b k ]
      each k l true q = ap (slot record_bytes after) (eqb-true k n q) ∙ slot_same ∙ e
      each k l false q = slot_other k l (eqb-false k n q)

-- ---- the store

module _ (b : List ℕ) (n : ℕ) (c : Cluster) where
  whole : length (store_in b).clusters ≡ records
  unfolding store_in
  whole = length_tabulate records (λ k. cluster_in (slot record_bytes b k))

  with_store : Bytes image_bytes b → good b ≡ true → with_record b n c ≡ image_of (put_record (store_in b) n c)
  unfolding with_record image_of good
  with_store h g =
      joined_same records _ (λ k. record_out (cluster_at (put_record (store_in b) n c) k))
      (λ k l. each k l (eqb k n) refl)
    where
      each : (k : ℕ) → k < records → (t : Bool) → eqb k n ≡ t
          → elim t [ true ↦ record_out c | false ↦ slot record_bytes b k ]
          ≡ record_out (cluster_at (put_record (store_in b) n c) k)
      each k l true q =
          let e = eqb-true k n q in
          ap record_out
          (sym (ap (λ (j : ℕ). cluster_at (put_record (store_in b) n c) j) e ∙ put_same (store_in b) n c (omega (arith, e, l, whole))))
      each k l false q =
          sym (ap record_out (put_other (store_in b) n c k (eqb-false k n q) ∙ cluster_at_lem b k l)
          ∙ record_back (slot record_bytes b k) (bytes_slot record_bytes records b k h l)
          (every_at records (λ k. good_record (slot record_bytes b k)) g k l))

  past_last : length b ≡ image_bytes → records ≤ n → b ≡ with_record b n c
  unfolding with_record
  past_last long h =
      sym (joined_slots record_bytes records b long)
      ∙ joined_same records (slot record_bytes b) _
      (λ k l. sym (ap (chosen k) (ne_eqb k n (λ e. omega (arith, e, l, h)))))
    where
      chosen : ℕ → Bool → List ℕ
      chosen k t = elim t [ true ↦ record_out c | false ↦ slot record_bytes b k ]

  -- the code's two ways
  module _ (long : length b ≡ image_bytes) (known : (i : ℕ) → Fits w8 (get_or b i 0)) where
    left : (after : List ℕ) → after ≡ with_record b n c
        → (after ≡ with_record b n c) × (good b ≡ true → after ≡ image_of (put_record (store_in b) n c))
    left _ e = (e, λ g. e ∙ with_store (record { long = long; below = λ i. (known i).fits }) g)

    pub put_none : records ≤ n
        → (b ≡ with_record b n c) × (good b ≡ true → b ≡ image_of (put_record (store_in b) n c))
    put_none h = left b (past_last long h)

    pub put_one : n < records → (x : List ℕ) → x ≡ record_out c
        → length x ≡ length (mid_of (n * record_bytes) (n * record_bytes + record_bytes - n * record_bytes) b)
        → (put_mid (n * record_bytes) (n * record_bytes + record_bytes - n * record_bytes) b x ≡ with_record b n c)
        × (good b ≡ true → put_mid (n * record_bytes) (n * record_bytes + record_bytes - n * record_bytes) b x
        ≡ image_of (put_record (store_in b) n c))
    put_one h x e same =
        left _ (with_slot b x n long h
        (same
        ∙ mid_len (n * record_bytes) (n * record_bytes + record_bytes) b (omega (arith, long, h))
        ∙ width (n * record_bytes) record_bytes)
        c e)
