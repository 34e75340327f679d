-- The bytes written out are those of the definitions, which are computed.
-- Assumes nothing.
use mathlib.Core.Path.{◌≡◌, refl, ap, ◌∙◌}
use mathlib.Core.Bool.{Bool, false}
use mathlib.Core.List.{List, [], ◌∷◌, map}
use Prim.Native.Nat.{ℕ}
use Rattle.bits.specs.Bytes.{bytes, word_from, word}
use Rattle.loops.specs.Below.{every}
use Rattle.loops.specs.Tabulate.{tabulate}
use Rattle.store.specs.Places.{None}
use Rattle.store.specs.declared.Store.{Store}
use Rattle.store.specs.Sound.{sound}
use Rattle.store.proofs.QuickLaws.{quick, quickly, sound_quick}
use Rattle.image.specs.Parts.{joined}
use Rattle.image.specs.Images.{place_in, good_place, good_segment, segments_in, good_segments, cluster_in, good_record, store_in}
use Rattle.image.specs.Images.{good, place_out, segment_out, segments_out, record_out, image_of}
use Rattle.image.specs.Literals.{sample, idle_bytes, ImageBytes, DamagedBytes, DamagedWidths}

pub image_bytes_lem : ImageBytes
unfolding bytes word_from word every tabulate joined place_in good_place good_segment segments_in good_segments cluster_in
    good_record store_in good place_out segment_out segments_out record_out image_of
image_bytes_lem = record { image = refl; store = refl; good = refl }

pub damaged_bytes : DamagedBytes
unfolding word word_from every tabulate place_in good_place good_segment segments_in good_segments cluster_in good_record store_in good
    quickly
damaged_bytes =
    record {
      active = refl;
      based = refl;
      marked = refl;
      full = refl;
      absent_mark = refl;
      held = refl;
      unsound = sound_quick _ 16384 ∙ refl;
      sound = sound_quick _ 16384 ∙ refl;
    }

-- stores judged by fewer pairs
sounds : (f : ℕ → Store) (l : List ℕ) → map (λ (v : ℕ). sound (f v) 16384) l ≡ map (λ (v : ℕ). quick (f v) 16384) l
sounds f l = ap (λ (t : ℕ → Bool). map t l) (λ j v. sound_quick (f v) 16384 j)

pub damaged_widths : DamagedWidths
unfolding word word_from every tabulate place_in good_place good_segment segments_in good_segments cluster_in good_record store_in good
    quickly
damaged_widths =
    record {
      good = λ v. refl;
      held = λ v. refl;
      judged = sounds (λ v. sample v (record { place = None; frozen = false })) (0 ∷ 4 ∷ 5 ∷ 8 ∷ 16 ∷ 17 ∷ 255 ∷ []) ∙ refl;
      idle = sounds (λ v. store_in (idle_bytes v)) (0 ∷ 1 ∷ 8 ∷ []) ∙ refl;
    }
