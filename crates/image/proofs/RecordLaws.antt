-- The 114 bytes of a record as the code writes them: three parts, then the active byte and the width.
-- Assumes nothing.
use mathlib.Core.Path.{◌≡◌, refl, ap, ◌∙◌}
use mathlib.Core.List.{List, [], ◌∷◌, ◌++◌, append_assoc, append-nil}
use Prim.Native.Nat.{ℕ, suc, ◌+◌, ◌*◌, ◌%◌, ◌<◌}
use native.Mathlib.Omega.{arith}
use borrow.Rule.Slice.PartMut.{put_mid, mid_of, same_len_mid, mid_len}
use mir.Syntax.{w8}
use mir.Val.{Fits, bool_byte}
use lib.ListN.{length, set, drop, length-append, drop_of_length-le}
use Rattle.bits.specs.Bytes.{bytes}
use Rattle.sizes.specs.Sizes.{segments, password_bytes}
use Rattle.store.specs.declared.Cluster.{Cluster}
use Rattle.store.specs.declared.Store.{Store}
use Rattle.image.specs.Images.{segment_bytes, record_bytes, width_at, read_at, write_at, segments_at, segments_out}
use Rattle.image.specs.Images.{record_out}
use Rattle.image.proofs.SegmentLaws.{flag_is}
use Rattle.image.proofs.WrittenLaws.{put_next}

pub store_same : (p q : List Cluster) → p ≡ q → ◌≡◌ {A = Store} (record { clusters = p }) (record { clusters = q })
store_same p q e = λ j. record { clusters = e j }

pub record_put : (c : Cluster) (out r w s : List ℕ) → length out ≡ record_bytes → r ≡ c.read
    → length r ≡ length (mid_of read_at password_bytes out) → w ≡ c.write → length w ≡ length (mid_of write_at password_bytes (put_mid read_at password_bytes out r))
    → s ≡ segments_out c.segments → length s ≡ length (mid_of segments_at (segments * segment_bytes) (put_mid write_at password_bytes (put_mid read_at password_bytes out r) w))
    → Fits w8 c.width
    → set (set (put_mid segments_at (segments * segment_bytes) (put_mid write_at password_bytes (put_mid read_at password_bytes out r) w) s) 0 (bool_byte c.active)) width_at c.width ≡ record_out c
unfolding record_out bytes
record_put c [] r w s e p lr q lw t ls f = absurd (omega arith)
record_put c (x ∷ []) r w s e p lr q lw t ls f = absurd (omega arith)
record_put c (x ∷ y ∷ out) r w s e p lr q lw t ls f =
    ap (λ (z : List ℕ). set (set z 0 (bool_byte c.active)) width_at c.width)
    (third ∙ ap (λ (z : List ℕ). ((((x ∷ y ∷ []) ++ r) ++ w) ++ s) ++ z) gone ∙ append-nil ((((x ∷ y ∷ []) ++ r) ++ w) ++ s))
    ∙ (λ j. flag_is c.active j ∷ low c.width f.fits j ∷ body j)
  where
    low : (v : ℕ) → v < 256 → v ≡ v % 256
    low v h = omega arith

    body : (r ++ w) ++ s ≡ c.read ++ (c.write ++ segments_out c.segments)
    body = rw (append_assoc r w s, p, q, t)

    l1 : length (put_mid read_at password_bytes (x ∷ y ∷ out) r) ≡ record_bytes
    l1 = same_len_mid read_at password_bytes (x ∷ y ∷ out) r lr ∙ e

    l2 : length (put_mid write_at password_bytes (put_mid read_at password_bytes (x ∷ y ∷ out) r) w) ≡ record_bytes
    l2 = same_len_mid write_at password_bytes (put_mid read_at password_bytes (x ∷ y ∷ out) r) w lw ∙ l1

    nr : length r ≡ password_bytes
    nr = lr ∙ mid_len read_at write_at (x ∷ y ∷ out) (let z = e in omega arith)

    nw : length w ≡ password_bytes
    nw = lw ∙ mid_len write_at segments_at (put_mid read_at password_bytes (x ∷ y ∷ out) r) (let z = l1 in omega arith)

    ns : length s ≡ segments * segment_bytes
    ns = ls ∙ mid_len segments_at record_bytes (put_mid write_at password_bytes (put_mid read_at password_bytes (x ∷ y ∷ out) r) w) (let z = l2 in omega arith)

    first : put_mid read_at password_bytes (x ∷ y ∷ out) r ≡ ((x ∷ y ∷ []) ++ r) ++ drop write_at (x ∷ y ∷ out)
    first = put_next (x ∷ y ∷ []) (x ∷ y ∷ out) (x ∷ y ∷ out) r read_at password_bytes refl refl nr

    h2 : length ((x ∷ y ∷ []) ++ r) ≡ write_at
    h2 = ap (λ (k : ℕ). suc (suc k)) nr

    second : put_mid write_at password_bytes (put_mid read_at password_bytes (x ∷ y ∷ out) r) w ≡ (((x ∷ y ∷ []) ++ r) ++ w) ++ drop segments_at (x ∷ y ∷ out)
    second = put_next ((x ∷ y ∷ []) ++ r) (x ∷ y ∷ out) (put_mid read_at password_bytes (x ∷ y ∷ out) r) w write_at password_bytes h2 first nw

    h3 : length (((x ∷ y ∷ []) ++ r) ++ w) ≡ segments_at
    h3 = length-append ((x ∷ y ∷ []) ++ r) w ∙ ap (λ (k : ℕ). k + length w) h2 ∙ ap (λ (k : ℕ). write_at + k) nw

    third : put_mid segments_at (segments * segment_bytes) (put_mid write_at password_bytes (put_mid read_at password_bytes (x ∷ y ∷ out) r) w) s
        ≡ ((((x ∷ y ∷ []) ++ r) ++ w) ++ s) ++ drop record_bytes (x ∷ y ∷ out)
    third =
        put_next (((x ∷ y ∷ []) ++ r) ++ w) (x ∷ y ∷ out) (put_mid write_at password_bytes (put_mid read_at password_bytes (x ∷ y ∷ out) r) w) s segments_at (segments * segment_bytes) h3 second ns

    gone : drop record_bytes (x ∷ y ∷ out) ≡ []
    gone = drop_of_length-le (x ∷ y ∷ out) {i = record_bytes} (let z = e in omega arith)
