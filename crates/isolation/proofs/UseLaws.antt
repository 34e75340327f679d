-- The uses. One round of each list is computed, with passwords, bytes and, where no call looks at it, the width left open; it leaves
-- the copy as it found it, so any number of rounds is known. The theorems then apply, and each fact is one clause of a conclusion.
-- Assumes nothing.
use mathlib.Core.Path.{◌≡◌, refl, sym, ap, ◌∙◌, subst}
use mathlib.Core.Logic.{◌≢◌}
use Prim.Native.Nat.{ℕ, ◌+◌, ◌≤◌, ◌<◌}
use native.Mathlib.Omega.{arith}
use mathlib.Core.Bool.{true, false}
use mathlib.Core.List.{List}
use lib.ListN.{length, get_or}
use Rattle.sizes.specs.Sizes.{nodes, clusters, segments}
use Rattle.handle.specs.Handles.{Name}
use Rattle.store.specs.Records.{record_of, cluster_at, table_at, place_on, read_mode, write_mode}
use Rattle.calls.specs.Calls.{Copy}
use Rattle.calls.specs.Numbers.{tests}
use Rattle.calls.specs.Steps.{Ran, effects, run}
use Rattle.calls.proofs.Computing.{computing}
use Rattle.isolation.specs.Copies.{InPlace, Outside, Alike, Held, Unaltered, keyed, AllShut, NoWriter, places}
use Rattle.isolation.specs.Statements.{Agreed}
use Rattle.isolation.specs.UseLists.{Wide, top, keeping, repeated, shut, shut_answers, shut_places}
use Rattle.isolation.specs.Uses.{LeftUses, TwoCopiesUses, ReadersUses}
use Rattle.isolation.proofs.RunLaws.{numbers_of, ran_by, run_below_lem, places_below_lem, along_below, is_keyed, shut_below}
use Rattle.isolation.proofs.RoundLaws.{checked, told_by, Round, round, rounds_same}
use Rattle.isolation.proofs.UseCopyLaws.{sound_keeping, top_low, its_bytes, in_top, in_first_lem, at_top, at_high, alike_keeping}
use Rattle.calls.proofs.CallLaws.{or_right}
use Rattle.isolation.proofs.TwoCopies.{two_copies}
use Rattle.isolation.proofs.ReaderLaws.{readers_alter_nothing}

-- what two copies hold at the end, where the first is left as it was
module _ (v : Wide) (p q s : List ℕ) (b c d k l m y z : ℕ) (one two : Copy) (same : one ≡ keeping v p p b c d y z) where
  -- a byte before or after the segments is outside them at the end too
  outside : (a : ℕ) → ((12288 ≤ a) × (a < 12294) → ⊥) → Outside 3 7 (table_at one.store) a
  outside a far =
      subst (λ (x : Copy). Outside 3 7 (table_at x.store) a) (sym same) (λ i hi u. far (its_bytes v p p i a hi u))

  byte : (a : ℕ) → get_or one.memory a 0 ≡ get_or (keeping v p p b c d y z).memory a 0
  byte a = ap (λ (x : Copy). get_or x.memory a 0) same

  pub left_uses : Alike 3 7 one two
      → ((u h i a : ℕ) → u < nodes → h < clusters → i < segments → record_of u h ≢ 31
      → InPlace u (place_on (table_at one.store) u h i) a → get_or one.memory a 0 ≡ get_or two.memory a 0)
      → Held 3 7 (keeping v p p b c d y z) one → Held 3 7 (keeping v q s k l m y z) two
      → LeftUses v p q s b c d k l m y z one two
  left_uses alike others first second =
      record {
        records = sym alike.records ∙ ap (λ (a : Copy). length a.store.clusters) same;
        other_record = sym (alike.others 3 (λ e. omega arith)) ∙ ap (λ (a : Copy). cluster_at a.store 3) same;
        table = sym alike.table ∙ ap (λ (a : Copy). table_at a.store 31) same;
        size = sym alike.size ∙ ap (λ (a : Copy). length a.memory) same;
        byte_other_node = sym (alike.bytes 4 (outside 4 (λ h. omega arith))) ∙ byte 4;
        byte_of_none = sym (alike.bytes 12294 (outside 12294 (λ h. omega arith))) ∙ byte 12294 ∙ at_high v p p b c d y z 6;
        other_byte =
            sym (others 0 3 7 1 (omega arith) (omega arith) (omega arith) (λ e. omega arith)
            (subst (λ (x : Copy). InPlace 0 (place_on (table_at x.store) 0 3 7) 1) (sym same) (omega arith, omega arith)))
            ∙ byte 1;
        near_record = sym (alike.others 26 (λ e. omega arith)) ∙ ap (λ (a : Copy). cluster_at a.store 26) same;
        near_byte =
            sym (others 3 2 15 12296 (omega arith) (omega arith) (omega arith) (λ e. omega arith)
            (subst (λ (x : Copy). InPlace 3 (place_on (table_at x.store) 3 2 15) 12296) (sym same) (omega arith, omega arith)))
            ∙ byte 12296
            ∙ at_high v p p b c d y z 8;
        first_record = sym first.cluster;
        first_bytes_lem = λ i h. sym (first.bytes (12288 + i) (top v) (top_low v) (in_top v p p i h)) ∙ at_top v p p b c d y z i h;
        first_others = (
          sym (first.bytes 12292 0 (omega arith) (in_first_lem v p p 0 (omega arith))) ∙ at_high v p p b c d y z 4,
          sym (first.bytes 12293 0 (omega arith) (in_first_lem v p p 1 (omega arith))) ∙ at_high v p p b c d y z 5,
        );
        second_record = sym second.cluster;
        second_bytes = λ i h.
            sym (second.bytes (12288 + i) (top v) (top_low v) (in_top v q s i h)) ∙ at_top v q s k l m y z i h;
        second_others = (
          sym (second.bytes 12292 0 (omega arith) (in_first_lem v q s 0 (omega arith))) ∙ at_high v q s k l m y z 4,
          sym (second.bytes 12293 0 (omega arith) (in_first_lem v q s 1 (omega arith))) ∙ at_high v q s k l m y z 5,
        );
      }

module _ (f : Name → List ℕ → ℕ → List ℕ) (v : Wide) where
  -- ---- the list that opens nothing

  module _ (r w : List ℕ) (b c d y z : ℕ) where
    abbrev copy : Copy
    copy = keeping v r w b c d y z

    shut_checked : checked f (is_keyed f 3 7) (numbers_of f shut_answers) shut copy ≡ true
    unfolding keyed tests effects computing
    shut_checked = refl

    shut_ran : ran_by f (numbers_of f shut_answers) shut copy ≡ record { replies = shut_answers; copy = copy }
    unfolding effects computing
    shut_ran = refl

    shut_told : told_by f (numbers_of f shut_answers) shut copy ≡ shut_places
    unfolding effects computing
    shut_told = refl

    shut_rounds : (n : ℕ) → Round f (is_keyed f 3 7) (repeated n shut) copy copy (repeated n shut_answers) (repeated n shut_places)
    shut_rounds =
        rounds_same f (is_keyed f 3 7) shut shut_answers shut_places copy
        (round f (is_keyed f 3 7) (numbers_of f shut_answers) shut copy copy shut_answers shut_places shut_checked shut_ran shut_told)

    pub shut_ended : (n : ℕ) → run f (repeated n shut) copy ≡ record { replies = repeated n shut_answers; copy = copy }
    shut_ended n = run_below_lem f (repeated n shut) copy (sound_keeping v r w b c d y z) ∙ (shut_rounds n).ran

    pub shut_places_lem : (n : ℕ) → places f (repeated n shut) copy ≡ repeated n shut_places
    shut_places_lem n = places_below_lem f (repeated n shut) copy (sound_keeping v r w b c d y z) ∙ (shut_rounds n).looked

    pub all_shut : (n : ℕ) → AllShut 3 7 f (repeated n shut) copy
    all_shut n = shut_below f 3 7 (repeated n shut) copy (sound_keeping v r w b c d y z) (shut_rounds n).untested

    no_writer : (n : ℕ) → NoWriter 3 7 f (repeated n shut) copy
    no_writer n =
        along_below f (is_keyed f 3 7) (λ x s. keyed 3 7 f write_mode x s ≡ false)
        (λ x s e. or_right (keyed 3 7 f read_mode x s) (keyed 3 7 f write_mode x s) e) (repeated n shut) copy
        (sound_keeping v r w b c d y z) (shut_rounds n).untested

  -- ---- condition 3

  module _ (n : ℕ) (p q s : List ℕ) (b c d k l m y z : ℕ) where
    abbrev one : Copy
    one = keeping v p p b c d y z

    abbrev two : Copy
    two = keeping v q s k l m y z

    -- each fact is a clause of condition 3's conclusion
    uses_of : Agreed 3 7 f (repeated n shut) one two → TwoCopiesUses f v n p q s b c d k l m y z
    uses_of agreed =
        record {
          replies = sym agreed.replies ∙ ap (λ (a : Ran). a.replies) (shut_ended p p b c d y z n);
          places = sym agreed.places ∙ shut_places_lem p p b c d y z n;
          left =
              left_uses v p q s b c d k l m y z (run f (repeated n shut) one).copy (run f (repeated n shut) two).copy
              (ap (λ (a : Ran). a.copy) (shut_ended p p b c d y z n)) agreed.alike agreed.others agreed.held_first
              agreed.held_second;
        }

    pub two_copies_uses : TwoCopiesUses f v n p q s b c d k l m y z
    two_copies_uses = uses_of agreed
      where
        agreed : Agreed 3 7 f (repeated n shut) one two
        agreed =
            two_copies 3 7 f (omega arith) (omega arith) (repeated n shut) one two (sound_keeping v p p b c d y z)
            (sound_keeping v q s k l m y z) refl (alike_keeping v p p q s b c d k l m y z) (all_shut p p b c d y z n)
            (all_shut q s k l m y z n)

  -- ---- readers

  module _ (n : ℕ) (p : List ℕ) (b c d y z : ℕ) where
    unaltered : Unaltered 3 7 (copy p p b c d y z) (run f (repeated n shut) (copy p p b c d y z)).copy
    unaltered =
        readers_alter_nothing 3 7 f (omega arith) (omega arith) (repeated n shut) (copy p p b c d y z)
        (sound_keeping v p p b c d y z) refl (no_writer p p b c d y z n)

    pub readers_uses : ReadersUses f v n p b c d y z
    readers_uses =
        record {
          table = sym unaltered.table;
          write = sym unaltered.write;
          bytes = λ i h.
              sym (unaltered.bytes (12288 + i) (top v) (top_low v) (in_top v p p i h)) ∙ at_top v p p b c d y z i h;
          others = (
            sym (unaltered.bytes 12292 0 (omega arith) (in_first_lem v p p 0 (omega arith))) ∙ at_high v p p b c d y z 4,
            sym (unaltered.bytes 12293 0 (omega arith) (in_first_lem v p p 1 (omega arith))) ∙ at_high v p p b c d y z 5,
          );
        }
