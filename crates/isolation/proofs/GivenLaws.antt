-- The handles that calls 7, 8 and 11 make from handles open the cluster on the copy left. Each is written to its bytes and
-- read back; the chains of a weakened, of a reduced and of a joined handle end as the laws of handles say, at the width of the
-- handle presented, which the handle given has too.
-- Assumes nothing.
use mathlib.Core.Path.{◌≡◌, refl, sym, ap, ap₂, ◌∙◌, subst}
use mathlib.Core.Logic.{inl}
use Prim.Native.Nat.{ℕ}
use mathlib.Core.Bool.{true, false, ◌&&◌}
use mathlib.Core.List.{List, []}
use lib.Dec.{eqb}
use lib.ListN.{length}
use Rattle.loops.proofs.BelowLaws.{and_both, and_left, and_right}
use Rattle.sizes.specs.Sizes.{password_bytes}
use Rattle.handle.specs.declared.Handle.{Handle}
use Rattle.handle.specs.Selectors.{either, all_flat, gapped, whole_union}
use Rattle.handle.specs.Handles.{Name, name_of, width_of, encoded, laid, decoded, Holdable, through, validates}
use Rattle.handle.specs.Handles.{weakened, reduced, joined}
use Rattle.handle.specs.Opens.{Opens}
use Rattle.handle.specs.Joins.{Joins}
use Rattle.handle.proofs.HandleLaws.{name_weakened, width_weakened, gapped_weakened, valid_weakened, references_weakened}
use Rattle.handle.proofs.HandleLaws.{name_reduced, width_reduced, gapped_reduced, valid_reduced, references_reduced}
use Rattle.handle.proofs.JoinLaws.{joins}
use Rattle.handle.proofs.PasswordLaws.{equal_validates, validates_equal}
use Rattle.handle.proofs.TripLaws.{bytes_laid, read_laid}
use Rattle.handle.proofs.HeldLaws.{holdable_decoded, whole_decoded, holdable_weakened, holdable_reduced, holdable_joined}
use Rattle.store.specs.declared.Store.{Store}
use Rattle.store.specs.Records.{record_of, cluster_at, primary_of}
use Rattle.calls.specs.Calls.{Call, call, weaken, reduce, join, record_named}
use Rattle.calls.specs.Numbers.{gapped_handle, spent_handle, join_whole, valid}
use Rattle.calls.specs.Steps.{left, given}
use Rattle.calls.specs.Literals.{none, told}
use Rattle.isolation.specs.Copies.{SixteenBytes}
use Rattle.isolation.specs.Effects.{opened, Reduced, ReducedOpens, Joined, JoinedOpens, Weakened, WeakenedOpens}
use Rattle.calls.proofs.CallLaws.{or_left}
use Rattle.calls.proofs.DoneLaws.{NoRow, no_row, each_known, done_even, done_valid}
use Rattle.calls.proofs.StepLaws.{step_done}
use Rattle.isolation.proofs.PrimaryLaws.{some_width, back_refers}

module _ (f : Name → List ℕ → ℕ → List ℕ) where
  -- a handle of the same name and width, whose chain ends as its password
  renamed_valid : (h r : Handle) (m : ℕ) (s : Store) → name_of r ≡ name_of h → width_of r ≡ width_of h
      → eqb (width_of h) (cluster_at s (record_named h)).width ≡ true
      → through (width_of h) (f (name_of h)) r.selector (primary_of (cluster_at s (record_named h)) m) ≡ r.password
      → valid f m r s ≡ true
  unfolding valid
  renamed_valid h r m s q w own e =
      ap₂
      (λ (n : Name) (k : ℕ).
      eqb k (cluster_at s (record_of n.node n.local)).width
      && validates k (f n) (primary_of (cluster_at s (record_of n.node n.local)) m) r)
      q w
      ∙ and_both (eqb (width_of h) (cluster_at s (record_named h)).width) _ own
      (equal_validates (width_of h) (f (name_of h)) r (primary_of (cluster_at s (record_named h)) m) e)

  -- a handle that validates has the width of its cluster, and its chain ends as its password
  module _ (h : Handle) (m : ℕ) (s : Store) (e : valid f m h s ≡ true) where
    own_width : eqb (width_of h) (cluster_at s (record_named h)).width ≡ true
    unfolding valid
    own_width = and_left (eqb (width_of h) (cluster_at s (record_named h)).width) _ e

    chain : SixteenBytes f → Holdable h → length (primary_of (cluster_at s (record_named h)) m) ≡ password_bytes
        → through (width_of h) (f (name_of h)) h.selector (primary_of (cluster_at s (record_named h)) m) ≡ h.password
    unfolding valid
    chain sixteen hold l =
        validates_equal (width_of h) (f (name_of h)) h (primary_of (cluster_at s (record_named h)) m) (sixteen (name_of h)) l
        hold.password (and_right (eqb (width_of h) (cluster_at s (record_named h)).width) _ e)

  pub reduced_opens : ReducedOpens f
  unfolding left given
  reduced_opens sixteen g c o l e =
      subst (Reduced f x) (sym (step_done f x c e)) (record {
        opens =
            ap (λ (k : Handle). valid f g.mode k c.store) back
            ∙ renamed_valid h r g.mode c.store (name_reduced w (f (name_of h)) h p) (width_reduced w (f (name_of h)) h p)
            (own_width h g.mode c.store valid_old)
            (valid_reduced w (f (name_of h)) h p (whole_decoded g.handle o)
            (chain h g.mode c.store valid_old sixteen hold l));
        handle =
            back_refers r back (record {
              named = name_reduced w (f (name_of h)) h p;
              wide = width_reduced w (f (name_of h)) h p;
              ungapped =
                  gapped_reduced w (f (name_of h)) h p (whole_decoded g.handle o)
                  (done_even f x c.store (length c.memory) e refl);
              refers = references_reduced w (f (name_of h)) h p;
            });
      })
    where
      x : Call
      x = call reduce g

      h : Handle
      h = decoded g.handle

      w : ℕ
      w = width_of h

      hold : Holdable h
      hold =
          holdable_decoded g.handle o (some_width h (each_known f x c.store (length c.memory) e h (inl refl)))

      valid_old : valid f g.mode h c.store ≡ true
      valid_old = done_valid f x c.store (length c.memory) e refl

      p : List ℕ
      p = primary_of (cluster_at c.store (record_named h)) g.mode

      r : Handle
      r = reduced w (f (name_of h)) h p

      back : opened (laid (encoded r)) ≡ r
      back = read_laid r (holdable_reduced (f (name_of h)) (sixteen (name_of h)) h hold p)

  pub joined_opens : JoinedOpens f
  unfolding left given joined join_whole
  joined_opens sixteen g c o e =
      subst (Joined f x c) (sym (step_done f x c e)) (record {
        stays = refl;
        told = ap (λ (b : List ℕ). told 0 b none 0 0 []) (sym (bytes_laid (encoded r)));
        opens =
            ap (λ (k : Handle). valid f g.mode k c.store) back
            ∙ renamed_valid h r g.mode c.store t.named t.wide
            (own_width h g.mode c.store (done_valid f x c.store (length c.memory) e refl)) t.valid;
        handle =
            back_refers r back (record {
              named = t.named;
              wide = t.wide;
              ungapped = t.ungapped;
              refers = t.refers;
            });
        not_primary_lem = ap (λ (k : Handle). all_flat (width_of k) k.selector) back ∙ j.never_primary part;
      })
    where
      x : Call
      x = call join g

      h : Handle
      h = decoded g.handle

      w : ℕ
      w = width_of h

      p : List ℕ
      p = primary_of (cluster_at c.store (record_named h)) g.mode

      r : Handle
      r = joined w (f (name_of h)) h (decoded g.other) p

      j : Joins w (f (name_of h)) p h (decoded g.other)
      j = joins w (f (name_of h)) p h (decoded g.other)

      part : whole_union w h.selector (decoded g.other).selector ≡ false
      part = (no_row f x c.store (length c.memory) e).join_whole

      t : Opens w (f (name_of h)) (name_of h) p (either h.selector (decoded g.other).selector) r
      t = j.opens refl part

      hold : Holdable h
      hold =
          holdable_decoded g.handle o (some_width h (each_known f x c.store (length c.memory) e h (inl refl)))

      back : opened (laid (encoded r)) ≡ r
      back = read_laid r (holdable_joined (f (name_of h)) (sixteen (name_of h)) h hold (decoded g.other) p)

  pub weakened_opens : WeakenedOpens f
  unfolding left given gapped_handle spent_handle
  weakened_opens sixteen g c o e =
      subst (Weakened f x c) (sym (step_done f x c e)) (record {
        opens = λ m l v.
            ap (λ (k : Handle). valid f m k c.store) back
            ∙ renamed_valid h r m c.store (name_weakened w (f (name_of h)) h g.mask)
            (width_weakened w (f (name_of h)) h g.mask) (own_width h m c.store v)
            (valid_weakened w (f (name_of h)) h g.mask row.spent_handle
            (primary_of (cluster_at c.store (record_named h)) m)
            (or_left (gapped w h.selector) false row.gapped_handle)
            (chain h m c.store v sixteen hold l));
        handle =
            back_refers r back (record {
              named = name_weakened w (f (name_of h)) h g.mask;
              wide = width_weakened w (f (name_of h)) h g.mask;
              ungapped =
                  gapped_weakened w (f (name_of h)) h g.mask
                  (or_left (gapped w h.selector) false row.gapped_handle);
              refers = references_weakened w (f (name_of h)) h g.mask row.spent_handle;
            });
      })
    where
      x : Call
      x = call weaken g

      h : Handle
      h = decoded g.handle

      w : ℕ
      w = width_of h

      row : NoRow f x c.store (length c.memory)
      row = no_row f x c.store (length c.memory) e

      hold : Holdable h
      hold =
          holdable_decoded g.handle o (some_width h (each_known f x c.store (length c.memory) e h (inl refl)))

      r : Handle
      r = weakened w (f (name_of h)) h g.mask

      back : opened (laid (encoded r)) ≡ r
      back = read_laid r (holdable_weakened (f (name_of h)) (sixteen (name_of h)) h hold g.mask)
