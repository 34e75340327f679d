-- A record's segments as the code cuts them, five bytes each, and the records of an image, 114 bytes each: part i of those is
-- part i of the bytes.
-- Assumes nothing.
use mathlib.Core.Path.{◌≡◌, sym, ap, ◌∙◌, subst}
use mathlib.Core.List.{List, []}
use Prim.Native.Nat.{ℕ, ◌/◌, ◌≤◌, ◌<◌}
use native.Mathlib.Omega.{arith}
use borrow.Rule.Slice.PartMut.{mid_len}
use lib.ListN.{length, get_or, take}
use lib.Seq.{get_or-take, length-take-le}
use Rattle.std.specs.Simd.{first_chunks}
use Rattle.sizes.specs.Sizes.{nodes, clusters, segments, records}
use Rattle.store.specs.Records.{record_of}
use Rattle.store.proofs.ChunkLaws.{chunk_at, item_at}
use Rattle.image.specs.Parts.{part, slot}
use Rattle.image.specs.Images.{segment_bytes, record_bytes, image_bytes, segments_at}
use Rattle.image.proofs.PartLaws.{slot_is}

module _ (b : List ℕ) (long : length b ≡ record_bytes) (held : List (List ℕ))
    (en : length held ≡ length (part b segments_at record_bytes) / segment_bytes) where
  count : length (part b segments_at record_bytes) / segment_bytes ≡ segments
  count = ap (λ (n : ℕ). n / segment_bytes) (mid_len segments_at record_bytes b (let l = long in omega arith))

  pub held_all : length held ≡ segments
  held_all = en ∙ count

  pub held_at : held ≡ first_chunks segment_bytes (length (part b segments_at record_bytes) / segment_bytes) (part b segments_at record_bytes)
      → (i : ℕ) → i < segments → get_or held i [] ≡ slot segment_bytes (part b segments_at record_bytes) i
  held_at e i h =
      ap (λ (l : List (List ℕ)). get_or l i []) e
      ∙ chunk_at segment_bytes (length (part b segments_at record_bytes) / segment_bytes) (part b segments_at record_bytes) i
      (subst (λ (n : ℕ). i < n) (sym count) h)
      ∙ sym (slot_is segment_bytes (part b segments_at record_bytes) i)

  module _ (n : ℕ) (low : n ≤ segments) where
    pub some_all : length (take n held) ≡ n
    some_all = length-take-le n held (subst (λ (k : ℕ). n ≤ k) (sym held_all) low)

    pub some_at : held ≡ first_chunks segment_bytes (length (part b segments_at record_bytes) / segment_bytes) (part b segments_at record_bytes)
        → (i : ℕ) → i < n → get_or (take n held) i [] ≡ slot segment_bytes (part b segments_at record_bytes) i
    some_at e i h = get_or-take n held i [] h ∙ held_at e i (omega arith)

module _ (b : List ℕ) (long : length b ≡ image_bytes) (parts : List (List ℕ))
    (en : length parts ≡ length b / record_bytes) where
  all : length b / record_bytes ≡ records
  all = ap (λ (n : ℕ). n / record_bytes) long

  pub parts_all : length parts ≡ records
  parts_all = en ∙ all

  pub part_at : parts ≡ first_chunks record_bytes (length b / record_bytes) b
      → (i : ℕ) → i < records → get_or parts i [] ≡ slot record_bytes b i
  part_at e i h =
      ap (λ (l : List (List ℕ)). get_or l i []) e
      ∙ chunk_at record_bytes (length b / record_bytes) b i (subst (λ (n : ℕ). i < n) (sym all) h)
      ∙ sym (slot_is record_bytes b i)

  -- and these by the nodes
  module _ (ns : List (List (List ℕ))) (em : length ns ≡ length parts / clusters) where
    shares : length parts / clusters ≡ nodes
    shares = ap (λ (n : ℕ). n / clusters) parts_all

    pub nodes_all : length ns ≡ nodes
    nodes_all = em ∙ shares

    pub node_record : parts ≡ first_chunks record_bytes (length b / record_bytes) b → ns ≡ first_chunks clusters (length parts / clusters) parts
        → (v l : ℕ) → v < nodes → l < clusters → get_or (get_or ns v []) l [] ≡ slot record_bytes b (record_of v l)
    node_record e f v l h k =
        ap (λ (x : List (List (List ℕ))). get_or (get_or x v []) l []) f
        ∙ item_at clusters (length parts / clusters) parts v l [] (subst (λ (n : ℕ). v < n) (sym shares) h) k
        ∙ part_at e (record_of v l) (omega arith)
