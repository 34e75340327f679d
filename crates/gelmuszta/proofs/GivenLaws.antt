-- A reply's handles are bytes laid out, whatever the call: those of a handle written, or none. So the 28 bytes that hold one are
-- these, zeros, and their number.
-- Assumes nothing.
use mathlib.Core.Path.{◌≡◌, refl, sym, ap, ◌∙◌}
use mathlib.Core.Bool.{Bool, true, false}
use mathlib.Core.List.{List, [], ◌∷◌}
use Prim.Native.Nat.{ℕ, zero, suc, ◌-◌, ◌≤◌}
use native.Mathlib.Omega.{arith}
use lib.ListN.{length, replicate, length-append, length-replicate}
use lib.Seq.{length-take-le}
use Rattle.handle.specs.declared.HandleBytes.{HandleBytes}
use Rattle.handle.specs.Widths.{most_bytes}
use Rattle.handle.specs.Handles.{name_of, encoded, laid}
use Rattle.handle.specs.Opens.{primary_handle}
use Rattle.handle.specs.Conversion.{product}
use Rattle.codec.specs.Held.{held_in, handed, bytes_held}
use Rattle.codec.proofs.HeldTripLaws.{held_trips}
use Rattle.calls.specs.Calls.{Copy, Call, Kind, new_cluster, delete_cluster, new_segment, delete_segment, read, write, weaken, among}
use Rattle.calls.specs.Calls.{reduce, new_password, freeze, join, validate, look, handle_of, buffer, weakening_by}
use Rattle.calls.specs.Numbers.{number, bad_length}
use Rattle.calls.proofs.WeakenLaws.{step_weaken}
use Rattle.calls.specs.Steps.{Reply, Outcome, new_primary, weaker, reduced_from, joined_from, given, outcome, step, aes_step, segment_read, segment_shown, plain}
use Rattle.calls.specs.Answers.{copy_of}
use Rattle.image.specs.Images.{good, store_in, image_of}
use Rattle.image.proofs.TripLaws.{image_store}
use Rattle.gelmuszta.specs.Exported.{Exported, leaving, early, damaged, imaged, exported}
use Rattle.gelmuszta.specs.Given.{Spread, HandlesGiven, RepliesWritten, WeakenedAlways}

-- ---- what replies hold

abbrev Laid : HandleBytes → Type 0
Laid a = (bs : List ℕ) × (a ≡ laid bs)

record BothLaid (r : Reply) : Type 0 where
  pub first : Laid r.first
  pub second : Laid r.second

laid_given : (k : Kind) (x : Call) (c : Copy) → BothLaid (given product k x c)
unfolding given segment_read segment_shown
laid_given new_cluster x c =
    record { first = (new_primary x x.args.first, refl); second = (new_primary x x.args.second, refl) }
laid_given delete_cluster x c = record { first = ([], refl); second = ([], refl) }
laid_given new_segment x c = record { first = ([], refl); second = ([], refl) }
laid_given delete_segment x c = record { first = ([], refl); second = ([], refl) }
laid_given read x c = record { first = ([], refl); second = ([], refl) }
laid_given write x c = record { first = ([], refl); second = ([], refl) }
laid_given weaken x c = record { first = (encoded (weaker product x), refl); second = ([], refl) }
laid_given reduce x c = record { first = (encoded (reduced_from product x c), refl); second = ([], refl) }
laid_given new_password x c =
    record {
      first = (encoded (primary_handle (handle_of x).width (name_of (handle_of x)) x.args.first), refl);
      second = ([], refl);
    }
laid_given freeze x c = record { first = ([], refl); second = ([], refl) }
laid_given join x c = record { first = (encoded (joined_from product x c), refl); second = ([], refl) }
laid_given validate x c = record { first = ([], refl); second = ([], refl) }
laid_given look x c = record { first = ([], refl); second = ([], refl) }

laid_step : (x : Call) (c : Copy) → BothLaid (aes_step x c).reply
unfolding step
laid_step x c = go (number product x c.store (length c.memory))
  where
    go : (n : ℕ) → BothLaid (outcome product n x c).reply
    go zero = laid_given x.kind x c
    go (suc n) = record { first = ([], refl); second = ([], refl) }

abbrev picked : Call → List ℕ → List ℕ → Bool → Exported
picked x b m g = elim g [ true ↦ imaged (aes_step x (copy_of (store_in b) m)) | false ↦ damaged x b m ]

laid_exported : (x : Call) (b m : List ℕ) → BothLaid (exported x b m).reply
unfolding exported
laid_exported x b m = go (good b)
  where
    looks : (t : Bool)
        → BothLaid (elim t [ true ↦ (aes_step x (copy_of (store_in b) m)).reply | false ↦ plain (early (bad_length x) false) (buffer x) ])
    looks true = laid_step x (copy_of (store_in b) m)
    looks false = record { first = ([], refl); second = ([], refl) }

    go : (g : Bool) → BothLaid (picked x b m g).reply
    go true = laid_step x (copy_of (store_in b) m)
    go false = looks (among (7 ∷ []) x.kind)

-- ---- the 28 bytes

spread : (hs : List ℕ) → length hs ≡ 28 → (a : HandleBytes) → handed hs ≡ a → Laid a → Spread hs
spread hs l a e (bs, eb) = held ∙ ap (λ (b : List ℕ). held_in (laid b)) (sym own)
  where
    few : length bs ≤ 27
    few =
        omega (
          arith,
          ap (λ (r : HandleBytes). length r.bytes) (e ∙ eb),
          length-take-le most_bytes hs (omega (arith, l)),
          length-append bs (replicate (most_bytes - length bs) 0),
          length-replicate {A = ℕ} (most_bytes - length bs) 0,
        )

    held : hs ≡ held_in (laid bs)
    held = sym (held_trips.whole hs l) ∙ ap held_in (e ∙ eb)

    own : bytes_held hs ≡ bs
    own = ap bytes_held held ∙ held_trips.taken bs few

pub handles_given : HandlesGiven
handles_given x b m hs l =
    record {
      first = λ e. spread hs l (exported x b m).reply.first e (laid_exported x b m).first;
      second = λ e. spread hs l (exported x b m).reply.second e (laid_exported x b m).second;
    }

-- ---- replies written out, and weakening

pub replies_written : RepliesWritten
replies_written = record { both = refl; one = refl; count = refl; length = refl }

pub weakened_always : WeakenedAlways
unfolding exported
weakened_always k h b m w c = go (good b) refl
  where
    x : Call
    x = weakening_by k h

    on : Copy
    on = copy_of (store_in b) m

    -- the reply is that of the handle alone, and the copy stays
    same : (aes_step x on).reply ≡ (aes_step x c).reply
    same =
        ap (λ (o : Outcome). o.reply) (step_weaken product x.args on)
        ∙ sym (ap (λ (o : Outcome). o.reply) (step_weaken product x.args c))

    store : (aes_step x on).copy ≡ on
    store = ap (λ (o : Outcome). o.copy) (step_weaken product x.args on)

    go : (g : Bool) → good b ≡ g → picked x b m g ≡ leaving (aes_step x c).reply b m
    go true e =
        λ j.
        leaving (same j) ((ap (λ (d : Copy). image_of d.store) store ∙ image_store b w e) j)
        (ap (λ (d : Copy). d.memory) store j)
    go false e = λ j. leaving (same j) b m
