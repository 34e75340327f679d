-- A part of known length, taken by value, is the part. A part that lies in the record has its length, and so a list's
-- handle has the width 8.
-- Assumes nothing.
use mathlib.Core.Path.{◌≡◌, ap, ◌∙◌}
use mathlib.Core.List.{List, []}
use Prim.Native.Nat.{ℕ, zero, suc, ◌+◌, ◌-◌, ◌*◌, ◌/◌, ◌≤◌, ◌<◌}
use native.Mathlib.Omega.{arith}
use native.Mathlib.Nat.{suc-mul}
use Rattle.std.specs.Simd.{first_chunks}
use lib.ListN.{length, get_or, take, drop, length-drop}
use lib.Seq.{length-take-le, drop-drop}
use Rattle.loops.specs.First.{first_bytes}
use Rattle.loops.proofs.FirstBytes.{first_whole}
use Rattle.sizes.specs.Sizes.{password_bytes}
use Rattle.handle.specs.Widths.{bits_of, width_for}
use Rattle.handle.specs.Handles.{width_of, decoded_as, decoded}
use Rattle.list.specs.Records.{record_bytes, list_width, handle_bytes, record_in, field}

pub field_long : (r : List ℕ) → length r ≡ record_bytes → (a n : ℕ) → a + n ≤ record_bytes → length (field r a n) ≡ n
field_long r e a n h = length-take-le n (drop a r) (rw length-drop (let q = e in omega arith))

pub handle_long : (r : List ℕ) → length r ≡ record_bytes → length (field r 8 handle_bytes) ≡ handle_bytes
handle_long r e = field_long r e 8 handle_bytes (omega arith)

pub width_eight : (b : List ℕ) → length b ≡ handle_bytes → width_of (decoded b) ≡ list_width
unfolding decoded
width_eight b e = ap (λ (n : ℕ). bits_of (decoded_as (width_for n) b).width) e

-- ---- the records of a list

-- chunk i of the first k is the part that lies there
pub chunk_at : (n k i : ℕ) (xs : List ℕ) → i < k → get_or (first_chunks n k xs) i [] ≡ take n (drop (i * n) xs)
chunk_at n zero i xs h = absurd (omega arith)
chunk_at n (suc k) zero xs h = let e : 0 ≡ 0 * n = omega arith in ap (λ (j : ℕ). take n (drop j xs)) e
chunk_at n (suc k) (suc i) xs h =
    let e : n + i * n ≡ suc i * n = omega (arith, suc-mul i n) in
    chunk_at n k i (drop n xs) (omega arith) ∙ ap (take n) (drop-drop (i * n) n xs)
    ∙ ap (λ (j : ℕ). take n (drop j xs)) e

pub chunk_record : (list : List ℕ) (k n : ℕ) → 1 ≤ k → k * record_bytes ≤ length list → n ≡ length list / record_bytes
    → get_or (first_chunks record_bytes n list) (k - 1) [] ≡ record_in list k
chunk_record list k n a b e = chunk_at record_bytes n (k - 1) list (omega arith)

-- ---- passwords

module _ (r : List ℕ) (e : length r ≡ record_bytes) (b : List ℕ) where
  whole : (a n : ℕ) → a + n ≤ record_bytes → b ≡ first_bytes n (field r a n) → b ≡ field r a n
  whole a n h eb = eb ∙ first_whole n (field r a n) (field_long r e a n h)

  pub first_in : b ≡ first_bytes password_bytes (field r 32 password_bytes) → b ≡ field r 32 password_bytes
  first_in = whole 32 password_bytes (omega arith)

  pub second_in : b ≡ first_bytes password_bytes (field r 48 password_bytes) → b ≡ field r 48 password_bytes
  second_in = whole 48 password_bytes (omega arith)
