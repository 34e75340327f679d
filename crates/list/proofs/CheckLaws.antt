-- The check of a list, return by return: its length, no records, the way from record 1.
-- Assumes nothing.
use mathlib.Core.Path.{◌≡◌, sym, ap, ◌∙◌}
use Prim.Native.Nat.{ℕ, ◌%◌, ◌≤◌, ◌<◌}
use mathlib.Core.Bool.{Bool, true, false, not, ◌||◌, cond}
use mathlib.Core.List.{List}
use borrow.Author.Tests.{eq-eqb, ne_eqb, lt-ltb, le-ltb}
use lib.Dec.{eqb, ltb}
use lib.ListN.{length}
use Rattle.chain.specs.Way.{Walked}
use Rattle.chain.specs.Way.{done, refusal}
use Rattle.chain.specs.Bytes.{way_in}
use Rattle.list.specs.Records.{record_bytes, most_bytes}
use Rattle.numbers.specs.Numbers.{length_number}
use Rattle.list.specs.Texts.{bad_length, checked}

module _ (list : List ℕ) where
  pub by_length : (t : Bool) → bad_length (length list) ≡ t
      → checked list
      ≡ cond t (refusal length_number) (cond (eqb (length list) 0) (done 0) (way_in list record_bytes 1))
  unfolding checked
  by_length t e =
      ap (λ (u : Bool). cond u (refusal length_number) (cond (eqb (length list) 0) (done 0) (way_in list record_bytes 1))) e

  pub check_uneven : (length list % record_bytes ≡ 0 → ⊥) → refusal length_number ≡ checked list
  unfolding bad_length
  check_uneven t =
      sym
      (by_length true (ap (λ (u : Bool). not u || ltb most_bytes (length list)) (ne_eqb (length list % record_bytes) 0 t)))

  module _ (e : length list % record_bytes ≡ 0) where
    even : (u : Bool) → ltb most_bytes (length list) ≡ u → bad_length (length list) ≡ u
    unfolding bad_length
    even u eu =
        ap (λ (v : Bool). not v || ltb most_bytes (length list)) (eq-eqb (length list % record_bytes) 0 e) ∙ eu

    pub check_long : most_bytes < length list → refusal length_number ≡ checked list
    check_long l = sym (by_length true (even true (lt-ltb most_bytes (length list) l)))

    module _ (l : length list ≤ most_bytes) where
      good : (t : Bool) → eqb (length list) 0 ≡ t → checked list ≡ cond t (done 0) (way_in list record_bytes 1)
      good t et =
          by_length false (even false (le-ltb most_bytes (length list) l))
          ∙ ap (λ (u : Bool). cond u (done 0) (way_in list record_bytes 1)) et

      pub check_empty : length list ≡ 0 → done 0 ≡ checked list
      check_empty z = sym (good true (eq-eqb (length list) 0 z))

      pub check_way : (length list ≡ 0 → ⊥) → (w : Walked) → w ≡ way_in list record_bytes 1 → w ≡ checked list
      check_way t w ew = ew ∙ sym (good false (ne_eqb (length list) 0 t))
