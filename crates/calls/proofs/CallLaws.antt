-- What the data about the kinds says. A call that opens a cluster presents its handle and is about that handle's cluster;
-- a call with no row 2 is about a place that exists; one with no row 3 needs the read mode or the write mode. A row of the
-- handles that does not apply, applies to none of them.
-- Assumes nothing.
use mathlib.Core.Path.{◌≡◌, refl, ap, ◌∙◌}
use mathlib.Core.Logic.{◌⊎◌, inl, inr}
use Prim.Native.Nat.{ℕ, ◌<◌}
use mathlib.Core.Bool.{Bool, true, false, not, ◌&&◌, ◌||◌, true≢false, false≢true}
use mathlib.Core.List.{List, [], ◌∷◌}
use lib.Dec.{leb, eqb}
use borrow.Author.Tests.{leb-false, eqb-true, not-false}
use Rattle.sizes.specs.Sizes.{nodes, clusters}
use Rattle.handle.specs.declared.Handle.{Handle}
use Rattle.handle.specs.Selectors.{gapped}
use Rattle.handle.specs.Handles.{Name, node_of, width_of, no_width, no_such_place}
use Rattle.store.specs.declared.Store.{Store}
use Rattle.store.specs.Records.{Tables, record_of, read_mode, write_mode}
use Rattle.calls.specs.Calls.{Call, call, Arguments, Kind, new_cluster, delete_cluster, new_segment, delete_segment}
use Rattle.calls.specs.Calls.{read, write, weaken, reduce, new_password, freeze, join, validate, look, among, opens}
use Rattle.calls.specs.Calls.{uses, needed, handle_of, presented, any_of, node_for, local_for}
use Rattle.calls.specs.Calls.{record_for}
use Rattle.calls.specs.Calls.{record_named}
use Rattle.calls.specs.Numbers.{no_place, bad_mode, bad_segment, bad_size, bad_width, bad_field, gapped_handle}
use Rattle.calls.specs.Numbers.{bad_length, inactive_cluster, other_width, valid, violated}

pub or_left : (a b : Bool) → (a || b) ≡ false → a ≡ false
or_left true b e = e
or_left false b e = refl

pub or_right : (a b : Bool) → (a || b) ≡ false → b ≡ false
or_right true b e = absurd (true≢false e)
or_right false b e = e

or_cases : (a b : Bool) → (a || b) ≡ true → (a ≡ true) ⊎ (b ≡ true)
or_cases true b e = inl refl
or_cases false b e = inr e

-- ---- the handles presented

-- a handle of a list
abbrev pub In : Handle → List Handle → Type 0
In h [] = ⊥
In h (k ∷ hs) = (h ≡ k) ⊎ In h hs

abbrev pub Presents : Call → Handle → Type 0
Presents x h = In h (presented x)

pub none_of : (p : Handle → Bool) (hs : List Handle) → any_of p hs ≡ false → (h : Handle) → In h hs → p h ≡ false
none_of p [] e h i = absurd i
none_of p (k ∷ hs) e h (inl q) = ap p q ∙ or_left (p k) (any_of p hs) e
none_of p (k ∷ hs) e h (inr i) = none_of p hs (or_right (p k) (any_of p hs) e) h i

pub any_same : (p q : Handle → Bool) (hs : List Handle) → ((h : Handle) → In h hs → p h ≡ q h) → any_of p hs ≡ any_of q hs
any_same p q [] e = refl
any_same p q (k ∷ hs) e = λ j. e k (inl refl) j || any_same p q hs (λ h i. e h (inr i)) j

pub record Opened (x : Call) : Type 0 where
  pub presents : Presents x (handle_of x)
  pub node : node_for x ≡ node_of (handle_of x)
  pub local : local_for x ≡ (handle_of x).local

opened_kind : (k : Kind) (g : Arguments) → opens k ≡ true → Opened (call k g)
opened_kind new_cluster g e = absurd (false≢true e)
opened_kind delete_cluster g e = record { presents = inl refl; node = refl; local = refl }
opened_kind new_segment g e = record { presents = inl refl; node = refl; local = refl }
opened_kind delete_segment g e = record { presents = inl refl; node = refl; local = refl }
opened_kind read g e = record { presents = inl refl; node = refl; local = refl }
opened_kind write g e = record { presents = inl refl; node = refl; local = refl }
opened_kind weaken g e = absurd (false≢true e)
opened_kind reduce g e = record { presents = inl refl; node = refl; local = refl }
opened_kind new_password g e = record { presents = inl refl; node = refl; local = refl }
opened_kind freeze g e = record { presents = inl refl; node = refl; local = refl }
opened_kind join g e = record { presents = inl refl; node = refl; local = refl }
opened_kind validate g e = record { presents = inl refl; node = refl; local = refl }
opened_kind look g e = record { presents = inl refl; node = refl; local = refl }

pub opened : (x : Call) → opens x.kind ≡ true → Opened x
opened x e = opened_kind x.kind x.args e

-- ---- a place that exists

pub record InRange (node local : ℕ) : Type 0 where
  pub node_low : node < nodes
  pub local_low : local < clusters

range_in : (n l : ℕ) → (leb nodes n || leb clusters l) ≡ false → InRange n l
range_in n l e =
    record {
      node_low = leb-false nodes n (or_left (leb nodes n) (leb clusters l) e);
      local_low = leb-false clusters l (or_right (leb nodes n) (leb clusters l) e);
    }

pub handle_range : (x : Call) (h : Handle) → Presents x h → no_place x ≡ false → InRange (node_of h) h.local
unfolding no_place
handle_range x h i e =
    let far : Bool = any_of no_such_place (presented x) in
    let node : Bool = (uses x.kind).current && leb nodes x.args.current in
    let local : Bool = (uses x.kind).local && leb clusters x.args.local in
    range_in (node_of h) h.local
    (none_of no_such_place (presented x) (or_left far node (or_left (far || node) local e)) h i)

range_kind : (k : Kind) (g : Arguments) → no_place (call k g) ≡ false
    → InRange (node_for (call k g)) (local_for (call k g))
unfolding no_place
range_kind new_cluster g e = range_in g.current g.local e
range_kind delete_cluster g e = handle_range (call delete_cluster g) (handle_of (call delete_cluster g)) (inl refl) e
range_kind new_segment g e = handle_range (call new_segment g) (handle_of (call new_segment g)) (inl refl) e
range_kind delete_segment g e = handle_range (call delete_segment g) (handle_of (call delete_segment g)) (inl refl) e
range_kind read g e = handle_range (call read g) (handle_of (call read g)) (inl refl) e
range_kind write g e = handle_range (call write g) (handle_of (call write g)) (inl refl) e
range_kind weaken g e = handle_range (call weaken g) (handle_of (call weaken g)) (inl refl) e
range_kind reduce g e = handle_range (call reduce g) (handle_of (call reduce g)) (inl refl) e
range_kind new_password g e = handle_range (call new_password g) (handle_of (call new_password g)) (inl refl) e
range_kind freeze g e = handle_range (call freeze g) (handle_of (call freeze g)) (inl refl) e
range_kind join g e = handle_range (call join g) (handle_of (call join g)) (inl refl) e
range_kind validate g e = handle_range (call validate g) (handle_of (call validate g)) (inl refl) e
range_kind look g e = handle_range (call look g) (handle_of (call look g)) (inl refl) e

pub in_range : (x : Call) → no_place x ≡ false → InRange (node_for x) (local_for x)
in_range x e = range_kind x.kind x.args e

-- ---- the mode needed

pub mode_known : (x : Call) → bad_field x ≡ false → (needed x ≡ read_mode) ⊎ (needed x ≡ write_mode)
unfolding bad_field bad_mode
mode_known x e =
    go (uses x.kind).mode (among (5 ∷ []) x.kind)
    (or_left (bad_mode x) (bad_segment x)
    (or_left (bad_mode x || bad_segment x) (bad_size x) (or_left (bad_mode x || bad_segment x || bad_size x) (bad_width x) e)))
  where
    m : ℕ
    m = x.args.mode

    one : (eqb m read_mode ≡ true) ⊎ (eqb m write_mode ≡ true) → (m ≡ read_mode) ⊎ (m ≡ write_mode)
    one (inl p) = inl (eqb-true m read_mode p)
    one (inr p) = inr (eqb-true m write_mode p)

    mode_of : Bool → Bool → ℕ
    mode_of u v = elim u [ true ↦ m | false ↦ elim v [ true ↦ read_mode | false ↦ write_mode ] ]

    go : (u v : Bool) → (u && not (eqb m read_mode || eqb m write_mode)) ≡ false
        → (mode_of u v ≡ read_mode) ⊎ (mode_of u v ≡ write_mode)
    go true v q = one (or_cases (eqb m read_mode) (eqb m write_mode) (not-false (eqb m read_mode || eqb m write_mode) q))
    go false true q = inl refl
    go false false q = inr refl

-- ---- tests of the handles

pub guarded : (g t : Bool) → g ≡ true → (g && t) ≡ false → t ≡ false
guarded true t p e = e
guarded false t p e = absurd (false≢true p)

pub record_is : (x : Call) → opens x.kind ≡ true → record_for x ≡ record_named (handle_of x)
record_is x o = let r = opened x o in λ t. record_of (r.node t) (r.local t)

module _ (x : Call) (h : Handle) (i : Presents x h) where
  pub known_is : bad_length x ≡ false → no_width h ≡ false
  unfolding bad_length
  known_is e = none_of no_width (presented x) e h i

  pub ungapped_is : gapped_handle x ≡ false → gapped (width_of h) h.selector ≡ false
  unfolding gapped_handle
  ungapped_is e = none_of (λ h. gapped (width_of h) h.selector) (presented x) e h i

  module _ (o : opens x.kind ≡ true) where
    pub active_is : (ts : Tables) → inactive_cluster x ts ≡ false → (ts (record_named h)).active ≡ true
    unfolding inactive_cluster
    active_is ts e =
        not-false (ts (record_named h)).active
        (none_of (λ h. not (ts (record_named h)).active) (presented x) (guarded (opens x.kind) _ o e) h i)

    pub wide_is : (ts : Tables) → other_width x ts ≡ false → width_of h ≡ (ts (record_named h)).width
    unfolding other_width
    wide_is ts e =
        eqb-true (width_of h) (ts (record_named h)).width
        (not-false (eqb (width_of h) (ts (record_named h)).width)
        (none_of (λ h. not (eqb (width_of h) (ts (record_named h)).width)) (presented x)
        (guarded (opens x.kind) _ o e) h i))

    pub valid_is : (f : Name → List ℕ → ℕ → List ℕ) (s : Store) → violated f x s ≡ false → valid f (needed x) h s ≡ true
    unfolding violated
    valid_is f s e =
        not-false (valid f (needed x) h s)
        (none_of (λ h. not (valid f (needed x) h s)) (presented x) (guarded (opens x.kind) _ o e) h i)
