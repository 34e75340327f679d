-- Document 01, "The list of calls", with codes 10 and 11 of document 02: the call that each code names, by the bytes of the
-- record, and so which bytes of the 64 count.
--     Span, to              bytes of a record, by the first and the last
--     SameIn ss r q         the records r and q have the same bytes there
--     CodesInWords r b      what the record r does on the bench b, by its code in byte 1: byte 2 the current node, 3 the mode,
--                           4 the segment, the mask or the local number, 6 and 7 the size, 8 to 30 the handle, 32 to 54 the
--                           second handle, 32 to 47 and 48 to 63 the passwords. A write has as many bytes of data from 32
--                           on as byte 5 says, of which there are at most 32, and 32 are not too many
--     Ignores c ss          records of 64 bytes with the code c that agree in ss do the same
--     BytesInWords          the bytes that count, a line for each code; of a write those of its data too, and no more
-- Assumes nothing.
use Rattle.std.specs.Prelude.{◌≡◌, ◌⊎◌, ℕ, ◌+◌, ◌*◌, ◌≤◌, ◌<◌, List, [], ◌∷◌, length}
use Rattle.calls.specs.Calls.{Call, making_cluster, deleting_cluster, making_segment, deleting_segment, reading, writing}
use Rattle.calls.specs.Calls.{weakening_by, reducing, renewing, freezing, joining}
use Rattle.list.specs.Records.{byte, field}
use Rattle.list.specs.Runs.{Bench, stepped, performed}

pub record Span : Type 0 where
  pub first : ℕ
  pub last : ℕ

abbrev pub to : ℕ → ℕ → Span
to a b = record { first = a; last = b }

abbrev pub SameIn : List Span → List ℕ → List ℕ → Type 0
SameIn [] r q = Unit {0}
SameIn (s ∷ ss) r q = ((i : ℕ) → s.first ≤ i → i ≤ s.last → byte r i ≡ byte q i) × SameIn ss r q

module _ (r : List ℕ) (b : Bench) where
  abbrev Does : Call → Type 0
  Does x = performed r b ≡ stepped x.kind x b

  pub record CodesInWords : Type 0 where
    pub of1 : byte r 1 ≡ 1 → Does (making_cluster (byte r 2) (byte r 4) 8 (field r 32 16) (field r 48 16))
    pub of2 : byte r 1 ≡ 2 → Does (deleting_cluster (byte r 2) (field r 8 23))
    pub of3 : byte r 1 ≡ 3 → Does (making_segment (byte r 2) (byte r 4) (byte r 6 * 256 + byte r 7) (field r 8 23))
    pub of4 : byte r 1 ≡ 4 → Does (deleting_segment (byte r 2) (byte r 4) (field r 8 23))
    pub of5 : byte r 1 ≡ 5 → Does (reading (byte r 4) (field r 8 23) b.buffer)
    pub of6 : byte r 1 ≡ 6 → byte r 5 ≤ 32 → Does (writing (byte r 4) (field r 8 23) (field r 32 (byte r 5)))
    pub of7 : byte r 1 ≡ 7 → Does (weakening_by (byte r 4) (field r 8 23))
    pub of8 : byte r 1 ≡ 8 → Does (reducing (byte r 3) (field r 8 23))
    pub of9 : byte r 1 ≡ 9 → Does (renewing (byte r 3) (field r 8 23) (field r 32 16))
    pub of10 : byte r 1 ≡ 10 → Does (freezing (byte r 2) (byte r 4) (field r 8 23))
    pub of11 : byte r 1 ≡ 11 → Does (joining (byte r 3) (field r 8 23) (field r 32 23))

abbrev pub Ignores : ℕ → List Span → Type 0
Ignores c ss =
    (r q : List ℕ) (b : Bench) → length r ≡ 64 → length q ≡ 64 → byte r 1 ≡ c → byte q 1 ≡ c → SameIn ss r q
    → performed r b ≡ performed q b

pub record BytesInWords : Type 0 where
  pub of1 : Ignores 1 (to 2 2 ∷ to 4 4 ∷ to 32 63 ∷ [])
  pub of2 : Ignores 2 (to 2 2 ∷ to 8 30 ∷ [])
  pub of3 : Ignores 3 (to 2 2 ∷ to 4 4 ∷ to 6 30 ∷ [])
  pub of4 : Ignores 4 (to 2 2 ∷ to 4 4 ∷ to 8 30 ∷ [])
  pub of5 : Ignores 5 (to 4 4 ∷ to 8 30 ∷ [])
  pub of6 : (n : ℕ) → n ≤ 32 → (r q : List ℕ) (b : Bench) → length r ≡ 64 → length q ≡ 64 → byte r 1 ≡ 6 → byte q 1 ≡ 6
      → byte r 5 ≡ n → byte q 5 ≡ n → SameIn (to 4 4 ∷ to 8 30 ∷ []) r q
      → ((i : ℕ) → i < n → byte r (32 + i) ≡ byte q (32 + i)) → performed r b ≡ performed q b
  pub of7 : Ignores 7 (to 4 4 ∷ to 8 30 ∷ [])
  pub of8 : Ignores 8 (to 3 3 ∷ to 8 30 ∷ [])
  pub of9 : Ignores 9 (to 3 3 ∷ to 8 30 ∷ to 32 47 ∷ [])
  pub of10 : Ignores 10 (to 2 2 ∷ to 4 4 ∷ to 8 30 ∷ [])
  pub of11 : Ignores 11 (to 3 3 ∷ to 8 30 ∷ to 32 54 ∷ [])
  pub other : (c : ℕ) → (c ≡ 0) ⊎ (11 < c) → Ignores c []
