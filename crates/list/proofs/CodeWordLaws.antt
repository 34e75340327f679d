-- The call of each code by the bytes of its record: the code picks the kind, no kind but a write has a data length to misfit,
-- and a call goes by its own arguments. So records that have those bytes in common do the same.
-- Assumes nothing.
use mathlib.Core.Path.{◌≡◌, refl, sym, ap, ◌∙◌, subst}
use mathlib.Core.Logic.{◌⊎◌}
use Prim.Native.Nat.{ℕ, ◌+◌, ◌*◌, ◌-◌, ◌≤◌, ◌<◌}
use native.Mathlib.Omega.{arith}
use mathlib.Core.Bool.{Bool, true, false}
use mathlib.Core.List.{List}
use lib.ListN.{length, drop, length-drop}
use lib.Seq.{length-take-le, get_or-take, get_or-drop, ext_get_or}
use borrow.Author.Tests.{le-ltb}
use Rattle.handle.specs.Handles.{first_of}
use Rattle.handle.specs.Conversion.{product}
use Rattle.calls.specs.Calls.{Kind, Call, Arguments, call, new_cluster, delete_cluster, new_segment, delete_segment, read, write}
use Rattle.calls.specs.Calls.{weaken, reduce, new_password, freeze, join}
use Rattle.calls.specs.Calls.{making_cluster, deleting_cluster, making_segment, deleting_segment, reading, writing}
use Rattle.calls.specs.Calls.{weakening_by, reducing, renewing, freezing, joining}
use Rattle.calls.specs.Steps.{Outcome, aes_step}
use Rattle.calls.specs.UsesWords.{UsesInWords}
use Rattle.calls.proofs.UsesWordLaws.{uses_in_words}
use Rattle.list.specs.Records.{byte, field, kind_of, arguments_of}
use Rattle.list.specs.Runs.{Bench, Performed, refused, misfit_rows, after_step, stepped, performed_as, performed}
use Rattle.list.specs.CodeWords.{CodesInWords, BytesInWords}
use Rattle.list.proofs.MeaningLaws.{bad_code}

module _ (r : List ℕ) (b : Bench) where
  abbrev asked : Kind → Arguments
  asked k = arguments_of k r b.buffer

  -- what a record of this code does
  by_code : (c : ℕ) → byte r 1 ≡ c → performed r b ≡ performed_as (kind_of c) r b
  unfolding performed
  by_code c e = ap (λ (n : ℕ). performed_as (kind_of n) r b) e

  -- equal steps leave and answer the same
  alike : (k : Kind) (x y : Call) → aes_step x b.copy ≡ aes_step y b.copy → stepped k x b ≡ stepped k y b
  alike k x y e = ap (λ (o : Outcome). after_step k o b) e

  -- a write with a data length, where that is not above 32
  abbrev chosen : Bool → Performed
  chosen t =
      elim t [
        | true ↦ refused (first_of (misfit_rows (call write (asked write)) b.copy)) b
        | false ↦ stepped write (call write (asked write)) b
      ]

  pub codes_in_words : CodesInWords r b
  unfolding kind_of
  codes_in_words =
      record {
        of1 = λ e.
            by_code 1 e
            ∙ alike new_cluster (call new_cluster (asked new_cluster)) (making_cluster (byte r 2) (byte r 4) 8 (field r 32 16) (field r 48 16))
            (goes.new_cluster (asked new_cluster) _ b.copy (refl, (refl, (refl, (refl, (refl, tt))))));
        of2 = λ e.
            by_code 2 e
            ∙ alike delete_cluster (call delete_cluster (asked delete_cluster)) (deleting_cluster (byte r 2) (field r 8 23))
            (goes.delete_cluster (asked delete_cluster) _ b.copy (refl, (refl, tt)));
        of3 = λ e.
            by_code 3 e
            ∙ alike new_segment (call new_segment (asked new_segment)) (making_segment (byte r 2) (byte r 4) (byte r 6 * 256 + byte r 7) (field r 8 23))
            (goes.new_segment (asked new_segment) _ b.copy (refl, (refl, (refl, (refl, tt)))));
        of4 = λ e.
            by_code 4 e
            ∙ alike delete_segment (call delete_segment (asked delete_segment)) (deleting_segment (byte r 2) (byte r 4) (field r 8 23))
            (goes.delete_segment (asked delete_segment) _ b.copy (refl, (refl, (refl, tt))));
        of5 = λ e.
            by_code 5 e
            ∙ alike read (call read (asked read)) (reading (byte r 4) (field r 8 23) b.buffer)
            (goes.read (asked read) _ b.copy (refl, (refl, (refl, tt))));
        of6 = λ e l.
            by_code 6 e ∙ ap chosen (le-ltb 32 (byte r 5) l)
            ∙ alike write (call write (asked write)) (writing (byte r 4) (field r 8 23) (field r 32 (byte r 5)))
            (goes.write (asked write) _ b.copy (refl, (refl, (refl, tt))));
        of7 = λ e.
            by_code 7 e
            ∙ alike weaken (call weaken (asked weaken)) (weakening_by (byte r 4) (field r 8 23))
            (goes.weaken (asked weaken) _ b.copy (refl, (refl, tt)));
        of8 = λ e.
            by_code 8 e
            ∙ alike reduce (call reduce (asked reduce)) (reducing (byte r 3) (field r 8 23))
            (goes.reduce (asked reduce) _ b.copy (refl, (refl, tt)));
        of9 = λ e.
            by_code 9 e
            ∙ alike new_password (call new_password (asked new_password)) (renewing (byte r 3) (field r 8 23) (field r 32 16))
            (goes.new_password (asked new_password) _ b.copy (refl, (refl, (refl, tt))));
        of10 = λ e.
            by_code 10 e
            ∙ alike freeze (call freeze (asked freeze)) (freezing (byte r 2) (byte r 4) (field r 8 23))
            (goes.freeze (asked freeze) _ b.copy (refl, (refl, (refl, tt))));
        of11 = λ e.
            by_code 11 e
            ∙ alike join (call join (asked join)) (joining (byte r 3) (field r 8 23) (field r 32 23))
            (goes.join (asked join) _ b.copy (refl, (refl, (refl, tt))));
      }
    where
      goes : UsesInWords product
      goes = uses_in_words product

-- ---- the bytes that count

module _ (r q : List ℕ) (lr : length r ≡ 64) (lq : length q ≡ 64) where
  field_same : (a n : ℕ) → a + n ≤ 64 → ((i : ℕ) → a ≤ i → i < a + n → byte r i ≡ byte q i) → field r a n ≡ field q a n
  field_same a n h e =
      ext_get_or 0 (field r a n) (field q a n) (long r lr ∙ sym (long q lq))
      (λ i l.
      let m = long r lr in
      get_or-take n (drop a r) i 0 (omega (arith, l, m)) ∙ get_or-drop a r i 0 ∙ e (a + i) (omega arith) (omega (arith, l, m))
      ∙ sym (get_or-take n (drop a q) i 0 (omega (arith, l, m)) ∙ get_or-drop a q i 0))
    where
      long : (z : List ℕ) → length z ≡ 64 → length (field z a n) ≡ n
      long z lz = length-take-le n (drop a z) (omega (arith, length-drop a z, lz, h))

  -- within a span
  part : (a b : ℕ) → ((i : ℕ) → a ≤ i → i ≤ b → byte r i ≡ byte q i) → (c n : ℕ) → a ≤ c → c + n ≤ b + 1 → b < 64
      → field r c n ≡ field q c n
  part a b e c n h l s = field_same c n (omega arith) (λ i u v. e i (omega arith) (omega arith))

pub bytes_in_words : BytesInWords
bytes_in_words =
    record {
      of1 = λ r q b lr lq er eq s.
          (codes_in_words r b).of1 er
          ∙ (λ j. stepped new_cluster (making_cluster (s.0 2 (omega arith) (omega arith) j) (s.1.0 4 (omega arith) (omega arith) j) 8 (part r q lr lq 32 63 s.1.1.0 32 16 (omega arith) (omega arith) (omega arith) j) (part r q lr lq 32 63 s.1.1.0 48 16 (omega arith) (omega arith) (omega arith) j)) b)
          ∙ sym ((codes_in_words q b).of1 eq);
      of2 = λ r q b lr lq er eq s.
          (codes_in_words r b).of2 er
          ∙ (λ j. stepped delete_cluster (deleting_cluster (s.0 2 (omega arith) (omega arith) j) (part r q lr lq 8 30 s.1.0 8 23 (omega arith) (omega arith) (omega arith) j)) b)
          ∙ sym ((codes_in_words q b).of2 eq);
      of3 = λ r q b lr lq er eq s.
          (codes_in_words r b).of3 er
          ∙ (λ j. stepped new_segment (making_segment (s.0 2 (omega arith) (omega arith) j) (s.1.0 4 (omega arith) (omega arith) j) ((s.1.1.0 6 (omega arith) (omega arith) j) * 256 + (s.1.1.0 7 (omega arith) (omega arith) j)) (part r q lr lq 6 30 s.1.1.0 8 23 (omega arith) (omega arith) (omega arith) j)) b)
          ∙ sym ((codes_in_words q b).of3 eq);
      of4 = λ r q b lr lq er eq s.
          (codes_in_words r b).of4 er
          ∙ (λ j. stepped delete_segment (deleting_segment (s.0 2 (omega arith) (omega arith) j) (s.1.0 4 (omega arith) (omega arith) j) (part r q lr lq 8 30 s.1.1.0 8 23 (omega arith) (omega arith) (omega arith) j)) b)
          ∙ sym ((codes_in_words q b).of4 eq);
      of5 = λ r q b lr lq er eq s.
          (codes_in_words r b).of5 er
          ∙ (λ j. stepped read (reading (s.0 4 (omega arith) (omega arith) j) (part r q lr lq 8 30 s.1.0 8 23 (omega arith) (omega arith) (omega arith) j) b.buffer) b)
          ∙ sym ((codes_in_words q b).of5 eq);
      of6 = λ n h r q b lr lq er eq nr nq s d.
          (codes_in_words r b).of6 er (rw nr h)
          ∙ (λ j. stepped write (writing (s.0 4 (omega arith) (omega arith) j) (part r q lr lq 8 30 s.1.0 8 23 (omega arith) (omega arith) (omega arith) j) (field r 32 (nr j))) b)
          ∙ ap (λ (l : List ℕ). stepped write (writing (byte q 4) (field q 8 23) l) b) (written n h r q lr lq d ∙ ap (field q 32) (sym nq))
          ∙ sym ((codes_in_words q b).of6 eq (rw nq h));
      of7 = λ r q b lr lq er eq s.
          (codes_in_words r b).of7 er
          ∙ (λ j. stepped weaken (weakening_by (s.0 4 (omega arith) (omega arith) j) (part r q lr lq 8 30 s.1.0 8 23 (omega arith) (omega arith) (omega arith) j)) b)
          ∙ sym ((codes_in_words q b).of7 eq);
      of8 = λ r q b lr lq er eq s.
          (codes_in_words r b).of8 er
          ∙ (λ j. stepped reduce (reducing (s.0 3 (omega arith) (omega arith) j) (part r q lr lq 8 30 s.1.0 8 23 (omega arith) (omega arith) (omega arith) j)) b)
          ∙ sym ((codes_in_words q b).of8 eq);
      of9 = λ r q b lr lq er eq s.
          (codes_in_words r b).of9 er
          ∙ (λ j. stepped new_password (renewing (s.0 3 (omega arith) (omega arith) j) (part r q lr lq 8 30 s.1.0 8 23 (omega arith) (omega arith) (omega arith) j) (part r q lr lq 32 47 s.1.1.0 32 16 (omega arith) (omega arith) (omega arith) j)) b)
          ∙ sym ((codes_in_words q b).of9 eq);
      of10 = λ r q b lr lq er eq s.
          (codes_in_words r b).of10 er
          ∙ (λ j. stepped freeze (freezing (s.0 2 (omega arith) (omega arith) j) (s.1.0 4 (omega arith) (omega arith) j) (part r q lr lq 8 30 s.1.1.0 8 23 (omega arith) (omega arith) (omega arith) j)) b)
          ∙ sym ((codes_in_words q b).of10 eq);
      of11 = λ r q b lr lq er eq s.
          (codes_in_words r b).of11 er
          ∙ (λ j. stepped join (joining (s.0 3 (omega arith) (omega arith) j) (part r q lr lq 8 30 s.1.0 8 23 (omega arith) (omega arith) (omega arith) j) (part r q lr lq 32 54 s.1.1.0 32 23 (omega arith) (omega arith) (omega arith) j)) b)
          ∙ sym ((codes_in_words q b).of11 eq);
      other = λ c o r q b lr lq er eq s.
          bad_code r b (subst Bad (sym er) o) ∙ sym (bad_code q b (subst Bad (sym eq) o));
    }
  where
    Bad : ℕ → Type 0
    Bad c = (c ≡ 0) ⊎ (11 < c)

    written : (n : ℕ) → n ≤ 32 → (r q : List ℕ) → length r ≡ 64 → length q ≡ 64
        → ((i : ℕ) → i < n → byte r (32 + i) ≡ byte q (32 + i)) → field r 32 n ≡ field q 32 n
    written n h r q lr lq d =
        field_same r q lr lq 32 n (omega arith)
        (λ i u v. ap (byte r) (off i u) ∙ d (i - 32) (omega arith) ∙ sym (ap (byte q) (off i u)))
      where
        off : (i : ℕ) → 32 ≤ i → i ≡ 32 + (i - 32)
        off i u = omega arith
