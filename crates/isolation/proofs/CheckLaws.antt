-- Conditions 1 and 2 of single calls. A refusal is the second clause of `outcome`. A call done had what must hold,
-- since each row, at its kind, is the test in question. Validation and weakening meet few rows: the others compute
-- away, and what is left is compared with the chain of conversions and with the handle crate's weakening.
-- Assumes nothing.
use mathlib.Core.Path.{◌≡◌, refl, sym, ap, ◌∙◌, subst}
use mathlib.Core.Logic.{◌⊎◌, inl, inr}
use Prim.Native.Nat.{ℕ, zero, suc, ◌≤◌}
use native.Mathlib.Omega.{arith}
use mathlib.Core.Bool.{Bool, true, false, not, ◌&&◌, ◌||◌, cond, or-false}
use mathlib.Core.List.{List, [], ◌∷◌, ◌++◌}
use lib.Dec.{eqb}
use lib.ListN.{length, take, drop, length-drop}
use lib.Seq.{length-take-le}
use borrow.Author.Tests.{eq-eqb, eqb-true, not-false}
use Rattle.loops.proofs.BelowLaws.{test_off, and_both, and_right}
use Rattle.sizes.specs.Sizes.{password_bytes}
use Rattle.handle.specs.declared.Handle.{Handle}
use Rattle.handle.specs.declared.Width.{Width}
use Rattle.handle.specs.declared.Width.TheVariants.{None, Four, Eight, Sixteen}
use Rattle.handle.specs.Sizes.{password_at}
use Rattle.handle.specs.Widths.{length_of}
use Rattle.handle.specs.Trips.{OfWidth}
use Rattle.handle.specs.Selectors.{references, all_flat}
use Rattle.handle.specs.Handles.{Name, name_of, node_of, same_name, width_of, no_width, decoded_as, decoded, first_of}
use Rattle.handle.specs.Handles.{validates}
use Rattle.handle.proofs.PasswordLaws.{equal_validates, validates_equal}
use Rattle.handle.proofs.CodecLaws.{width_cases}
use Rattle.store.specs.declared.Store.{Store}
use Rattle.store.specs.Records.{cluster_at, table_at, read_mode, write_mode, primary_of}
use Rattle.calls.specs.Calls.{Call, call, Arguments, Kind, new_cluster, delete_cluster, new_segment, delete_segment}
use Rattle.calls.specs.Calls.{read, write, weaken, reduce, new_password, freeze, join, validate, look, opens, needed}
use Rattle.calls.specs.Calls.{handle_of, other_of, buffer, record_named}
use Rattle.calls.specs.Numbers.{bad_length, unsound, no_place, bad_mode, bad_segment, bad_size, bad_width, bad_field, gapped_handle}
use Rattle.calls.specs.Numbers.{join_apart, elsewhere, in_use, twins, inactive_cluster, other_width, valid, violated, join_whole, not_primary}
use Rattle.calls.specs.Numbers.{not_referenced, tests, number, Line, at}
use Rattle.calls.specs.Steps.{plain, outcome, step}
use Rattle.isolation.specs.Copies.{SixteenBytes}
use Rattle.isolation.specs.Checks.{Refused, RefusalChangesNothing, FirstTold, Opener, Owner, MustHold, DoneHeld}
use Rattle.isolation.specs.Checks.{Judgeable, ValidationJudges, ValidationIsReduction}
use Rattle.isolation.specs.Checks.{WeakeningIs}
use Rattle.calls.proofs.StepLaws.{number_validate}
use Rattle.calls.proofs.HandleWords.{handle_in_words}
use Rattle.calls.proofs.JoinNumberLaws.{name_same}
use Rattle.calls.proofs.WeakenLaws.{step_weaken}
use Rattle.calls.specs.Clear.{Clear}
use Rattle.calls.proofs.CallLaws.{or_left, Presents, opened}
use Rattle.calls.proofs.DoneLaws.{no_row, each_even, each_active, each_wide, each_valid}

module _ (f : Name → List ℕ → ℕ → List ℕ) where
  -- ---- condition 1

  pub refusal_changes_nothing : RefusalChangesNothing f
  unfolding step
  refusal_changes_nothing x c ne = go (number f x c.store (length c.memory)) refl
    where
      go : (n : ℕ) → number f x c.store (length c.memory) ≡ n → Refused f x c
      go zero e = absurd (ne e)
      go (suc n) e =
          record {
            copy = ap (λ (k : ℕ). (outcome f k x c).copy) e;
            reply = ap (λ (k : ℕ). (outcome f k x c).reply) e ∙ ap (λ (k : ℕ). plain k (buffer x)) (sym e);
          }

  first_from : (x : Call) (s : Store) (above below : List Line) (r : Line) → Clear (at x s above) → (r x s).applies ≡ true
      → first_of (at x s (above ++ (r ∷ below))) ≡ (r x s).number
  first_from x s [] below r n e = ap (λ (t : Bool). cond t (r x s).number (first_of (at x s below))) e
  first_from x s (l ∷ ls) below r n e =
      ap (λ (t : Bool). cond t (l x s).number (first_of (at x s (ls ++ (r ∷ below))))) n.0
      ∙ first_from x s ls below r n.1 e

  pub first_told : FirstTold f
  unfolding number
  first_told x s size above below r q n e =
      ap (λ (ls : List Line). first_of (at x s ls)) q ∙ first_from x s above below r n e

  -- ---- the column "Must hold"

  module _ (x : Call) (s : Store) (size : ℕ) (e : number f x s size ≡ 0) where
    opener_of : (h : Handle) → Presents x h → opens x.kind ≡ true → Opener f (needed x) h s
    opener_of h i o =
        record {
          valid = each_valid f x s size e h i o;
          even = each_even f x s size e h i;
          active = each_active f x s size e h i o;
          wide = each_wide f x s size e h i o;
        }

    opener : opens x.kind ≡ true → Opener f (needed x) (handle_of x) s
    opener o = opener_of (handle_of x) (opened x o).presents o

  module _ (g : Arguments) (s : Store) (size : ℕ) where
    abbrev all : Kind → Bool
    all k = all_flat (width_of (handle_of (call k g))) (handle_of (call k g)).selector

    all_flat_lem : (h : Handle) → (not (all_flat (width_of h) h.selector) || false) ≡ false
        → all_flat (width_of h) h.selector ≡ true
    all_flat_lem h e =
        not-false (all_flat (width_of h) h.selector) (or_left (not (all_flat (width_of h) h.selector)) false e)

    same_node : (h : Handle) → not (eqb g.current (node_of h)) ≡ false → g.current ≡ node_of h
    same_node h e = eqb-true g.current (node_of h) (not-false (eqb g.current (node_of h)) e)

    owner : (k : Kind) (e : number f (call k g) s size ≡ 0) → opens k ≡ true → needed (call k g) ≡ write_mode
        → (not (all k) || false) ≡ false → not (eqb g.current (node_of (handle_of (call k g)))) ≡ false
        → Owner f (call k g) s
    owner k e o w p h =
        record {
          primary =
              record {
                opener = subst (λ (m : ℕ). Opener f m (handle_of (call k g)) s) w (opener (call k g) s size e o);
                flat = all_flat_lem (handle_of (call k g)) p;
              };
          here = same_node (handle_of (call k g)) h;
        }

    held_kind : (k : Kind) → number f (call k g) s size ≡ 0 → MustHold f k (call k g) s
    unfolding not_referenced twins elsewhere not_primary in_use join_apart join_whole
    held_kind new_cluster e = let r = no_row f (call new_cluster g) s size e in record { free = r.in_use; two = r.twins }
    held_kind delete_cluster e =
        let r = no_row f (call delete_cluster g) s size e in owner delete_cluster e refl refl r.not_primary r.elsewhere
    held_kind new_segment e =
        let r = no_row f (call new_segment g) s size e in owner new_segment e refl refl r.not_primary r.elsewhere
    held_kind delete_segment e =
        let r = no_row f (call delete_segment g) s size e in owner delete_segment e refl refl r.not_primary r.elsewhere
    held_kind read e =
        let x : Call = call read g in
        record {
          opener = opener x s size e refl;
          refers = not-false (references (handle_of x).selector g.segment) (no_row f x s size e).not_referenced;
        }
    held_kind write e =
        let x : Call = call write g in
        record {
          opener = opener x s size e refl;
          refers = not-false (references (handle_of x).selector g.segment) (no_row f x s size e).not_referenced;
        }
    held_kind weaken e = tt
    held_kind reduce e = opener (call reduce g) s size e refl
    held_kind new_password e =
        let x : Call = call new_password g in
        record { opener = opener x s size e refl; flat = all_flat_lem (handle_of x) (no_row f x s size e).not_primary }
    held_kind freeze e =
        let r = no_row f (call freeze g) s size e in owner freeze e refl refl r.not_primary r.elsewhere
    held_kind join e =
        let x : Call = call join g in
        let r = no_row f x s size e in
        record {
          first = opener x s size e refl;
          second = opener_of x s size e (other_of x) (inr (inl refl)) refl;
          one = name_same (handle_of x) (other_of x) (not-false (same_name (handle_of x) (other_of x)) r.join_apart);
          part = r.join_whole;
        }
    held_kind validate e = opener (call validate g) s size e refl
    held_kind look e =
        let x : Call = call look g in
        let r = no_row f x s size e in
        record {
          access =
              record {
                opener = opener x s size e refl;
                refers = not-false (references (handle_of x).selector g.segment) r.not_referenced;
              };
          here = same_node (handle_of x) r.elsewhere;
        }

  pub done_held : DoneHeld f
  done_held x s size e = held_kind x.args s size x.kind e

  -- ---- condition 2

  pub validation_is_reduction : ValidationIsReduction f
  validation_is_reduction = number_validate f

  module _ (g : Arguments) (s : Store) (size : ℕ) where
    abbrev x : Call
    x = call validate g

    abbrev h : Handle
    h = handle_of x

    -- the rows that validation meets
    validation_rows : number f x s size
        ≡ cond (bad_length x) 25
        (cond (unsound size x s) 1
        (cond (no_place x) 2
        (cond (bad_field x) 3
        (cond (gapped_handle x) 4
        (cond (inactive_cluster x (table_at s)) 8 (cond (other_width x (table_at s)) 25 (cond (violated f x s) 9 0)))))))
    unfolding number tests
    validation_rows = refl

    mode_good : (g.mode ≡ read_mode) ⊎ (g.mode ≡ write_mode) → bad_field x ≡ false
    unfolding bad_field bad_mode bad_segment bad_size bad_width
    mode_good (inl e) = rw e refl
    mode_good (inr e) = rw e refl

    row_nine : (l a b c d e w v : Bool) → l ≡ false → a ≡ false → b ≡ false → c ≡ false → d ≡ false → e ≡ false → w ≡ false
        → cond {A = ℕ} l 25 (cond a 1 (cond b 2 (cond c 3 (cond d 4 (cond e 8 (cond w 25 (cond v 9 0))))))) ≡ cond v 9 0
    row_nine l a b c d e w v n p q r s t u = rw (n, p, q, r, s, t, u) refl

    -- of 21, 23 or 27 bytes, the handle has a width
    known : OfWidth (length g.handle) → no_width h ≡ false
    known (inl e) = ap (λ (n : ℕ). eqb n 0) ((handle_in_words g.handle).of21 e).1
    known (inr (inl e)) = ap (λ (n : ℕ). eqb n 0) ((handle_in_words g.handle).of23 e).1
    known (inr (inr e)) = ap (λ (n : ℕ). eqb n 0) ((handle_in_words g.handle).of27 e).1

    same_width : Judgeable f g s size → eqb (width_of h) (table_at s (record_named h)).width ≡ true
    same_width j = eq-eqb (width_of h) (table_at s (record_named h)).width j.wide

    reached : Judgeable f g s size → number f x s size ≡ cond (violated f x s) 9 0
    unfolding bad_length unsound no_place gapped_handle inactive_cluster other_width
    reached j =
        validation_rows
        ∙ row_nine (bad_length x) (unsound size x s) (no_place x) (bad_field x) (gapped_handle x) (inactive_cluster x (table_at s))
        (other_width x (table_at s)) (violated f x s) (ap (λ (t : Bool). t || false) (known j.long)) (ap not j.sound)
        (ap (λ (t : Bool). t || false || false || false) j.place) (mode_good j.mode)
        (ap (λ (t : Bool). t || false) j.even) (ap (λ (t : Bool). not t || false) j.active)
        (ap (λ (t : Bool). not t || false) (same_width j))

    told : (v : Bool) → Judgeable f g s size → valid f g.mode h s ≡ v → number f x s size ≡ cond (not v) 9 0
    unfolding violated
    told v j e =
        reached j
        ∙ ap (λ (t : Bool). cond t 9 0) (or-false (not (valid f g.mode h s)))
        ∙ ap (λ (t : Bool). cond (not t) 9 0) e

    -- whatever the bytes, the password read from them has sixteen
    long_password : length h.password ≡ password_bytes
    unfolding decoded
    long_password = width_cases (λ v. length (decoded_as v b).password ≡ password_bytes) (length b) refl long
      where
        b : List ℕ
        b = g.handle

        part : 19 ≤ length b → length (take password_bytes (drop password_at b)) ≡ password_bytes
        part l = length-take-le password_bytes (drop password_at b) (omega (arith, length-drop password_at b))

        long : (v : Width) → length b ≡ length_of v → length (decoded_as v b).password ≡ password_bytes
        long None e = refl
        long Four e = part (omega (arith, e))
        long Eight e = part (omega (arith, e))
        long Sixteen e = part (omega (arith, e))

  pub validation_judges : SixteenBytes f → ValidationJudges f
  unfolding valid
  validation_judges sixteen g s size primary j =
      record {
        right = λ e. told g s size true j (and_both own _ (same_width g s size j) (equal_validates w k h p e));
        wrong = λ ne.
            told g s size false j
            (test_off (own && validates w k p h)
            (λ e.
            ne (validates_equal w k h p (sixteen (name_of h)) primary (long_password g s size) (and_right own _ e))));
      }
    where
      h : Handle
      h = handle_of (call validate g)

      w : ℕ
      w = width_of h

      own : Bool
      own = eqb w (cluster_at s (record_named h)).width

      k : List ℕ → ℕ → List ℕ
      k = f (name_of h)

      p : List ℕ
      p = primary_of (cluster_at s (record_named h)) g.mode

  -- ---- weakening

  pub weakening_is : WeakeningIs f
  weakening_is = step_weaken f
