-- The primary handles that calls 1 and 9 give open the cluster on the copy left. Each is written to its bytes and read back,
-- and its chain of conversions is empty. Its width is the one asked for, or that of the handle presented, which is its
-- cluster's.
-- Assumes nothing.
use mathlib.Core.Path.{◌≡◌, refl, sym, ap, ◌∙◌, subst}
use mathlib.Core.Logic.{◌⊎◌, inl, inr}
use Prim.Native.Nat.{ℕ, ◌<◌}
use native.Mathlib.Omega.{arith}
use mathlib.Core.Bool.{Bool, true, false, ◌||◌, false≢true}
use mathlib.Core.List.{List}
use lib.Dec.{eqb}
use lib.ListN.{length}
use borrow.Author.Tests.{eq-eqb, eqb-true, eqb-false, not-false}
use Rattle.loops.proofs.BelowLaws.{and_both}
use Rattle.sizes.specs.Sizes.{nodes, clusters, password_bytes}
use Rattle.handle.specs.declared.Handle.{Handle}
use Rattle.handle.specs.declared.Width.{Width}
use Rattle.handle.specs.Widths.{bits_of, width_from}
use Rattle.handle.specs.Selectors.{flats}
use Rattle.handle.specs.Handles.{Name, name_of, width_of, no_width, encoded, laid, through}
use Rattle.handle.specs.Opens.{primary_handle}
use Rattle.handle.proofs.OpensLaws.{opens_primary}
use Rattle.handle.proofs.PasswordLaws.{equal_validates}
use Rattle.handle.proofs.TripLaws.{read_laid}
use Rattle.store.specs.declared.Cluster.{Cluster}
use Rattle.store.specs.declared.Store.{Store}
use Rattle.store.specs.Records.{started, record_of, cluster_at, put_record, with_password, read_mode, write_mode, primary_of}
use Rattle.store.specs.Sound.{is_width}
use Rattle.store.proofs.ChangeLaws.{put_same}
use Rattle.calls.specs.Calls.{Copy, Call, call, Arguments, new_cluster, new_password, handle_of, node_for, local_for, record_for}
use Rattle.calls.specs.Numbers.{bad_width, valid}
use Rattle.calls.specs.Steps.{about, cluster_made, password_replaced, left, given}
use Rattle.isolation.specs.Copies.{Done}
use Rattle.isolation.specs.Effects.{opened, Refers, Made, MadeOpens, other_mode, Renewed, RenewedOpens}
use Rattle.calls.proofs.CallLaws.{InRange}
use Rattle.calls.proofs.DoneLaws.{done_range, done_mode, done_active, done_wide, done_width, each_known}
use Rattle.calls.proofs.StepLaws.{step_done}
use Rattle.calls.proofs.MadeWordLaws.{active_in}
use Rattle.isolation.proofs.EntryLaws.{other_stays}

-- ---- widths

-- what holds of 4, 8 and 16 holds of a width
of_three : (P : ℕ → Type 0) → P 4 → P 8 → P 16 → (w : ℕ) → is_width w ≡ true → P w
of_three P a b c w e = go (eqb w 4) (eqb w 8) (eqb w 16) refl refl refl e
  where
    at : (n : ℕ) → P n → eqb w n ≡ true → P w
    at n p q = subst P (sym (eqb-true w n q)) p

    go : (x y z : Bool) → eqb w 4 ≡ x → eqb w 8 ≡ y → eqb w 16 ≡ z → (x || (y || z)) ≡ true → P w
    go true y z p q r t = at 4 a p
    go false true z p q r t = at 8 b q
    go false false true p q r t = at 16 c r
    go false false false p q r t = absurd (false≢true t)

-- a handle that is not refused for its length has a width
pub some_width : (h : Handle) → no_width h ≡ false → 0 < width_of h
some_width h e = go (width_of h) (eqb-false (width_of h) 0 e)
  where
    go : (n : ℕ) → (n ≡ 0 → ⊥) → 0 < n
    go n q = omega (arith, q)

-- ---- primary handles

-- what a handle's bytes are read back as
pub back_refers : {n : Name} {w : ℕ} {r : ℕ → Bool} (h : Handle) → opened (laid (encoded h)) ≡ h → Refers n w r h
    → Refers n w r (opened (laid (encoded h)))
back_refers {n} {w} {r} h e o = subst (Refers n w r) (sym e) o

module _ (f : Name → List ℕ → ℕ → List ℕ) where
  module _ (v : Width) (some : 0 < bits_of v) (n : Name) (p : List ℕ) (hn : n.node < nodes) (hl : n.local < clusters)
      (hp : length p ≡ password_bytes) where
    abbrev primary : Handle
    primary = primary_handle v n p

    primary_back : opened (laid (encoded primary)) ≡ primary
    primary_back =
        read_laid primary (record {
          wide = some;
          node = omega arith;
          local = omega arith;
          password = hp;
          selector = refl;
          within = (opens_primary v (f n) n p).whole.within;
        })

    primary_refers : (w : ℕ) → bits_of v ≡ w → Refers n w (λ i. true) (opened (laid (encoded primary)))
    primary_refers w e =
        let o = opens_primary v (f n) n p in
        subst (λ (k : ℕ). Refers n k (λ i. true) (opened (laid (encoded primary)))) e
        (back_refers primary primary_back (record {
          named = o.named;
          wide = o.wide;
          ungapped = o.ungapped;
          refers = o.refers;
        }))

    primary_valid : (mode : ℕ) (s : Store) → bits_of v ≡ (cluster_at s (record_of n.node n.local)).width
        → primary_of (cluster_at s (record_of n.node n.local)) mode ≡ p
        → valid f mode (opened (laid (encoded primary))) s ≡ true
    unfolding valid
    primary_valid mode s w e =
        ap (λ (h : Handle). valid f mode h s) primary_back
        ∙ and_both (eqb (bits_of v) (cluster_at s (record_of n.node n.local)).width) _ (eq-eqb (bits_of v) _ w)
        (equal_validates (bits_of v) (f n) primary _
        (ap (through (bits_of v) (f n) (flats (bits_of v))) e ∙ (opens_primary v (f n) n p).valid))

  pub made_opens : MadeOpens f
  unfolding left given cluster_made bad_width
  made_opens g c shape lp lq e =
      subst (Made f x) (sym (step_done f x c e)) (record {
        reader = primary_refers u some n g.first v.node_low v.local_low lp g.width known;
        writer = primary_refers u some n g.second v.node_low v.local_low lq g.width known;
        reading =
            primary_valid u some n g.first v.node_low v.local_low lp read_mode s wide
            (ap (λ (d : Cluster). d.read) here);
        writing =
            primary_valid u some n g.second v.node_low v.local_low lq write_mode s wide
            (ap (λ (d : Cluster). d.write) here);
      })
    where
      x : Call
      x = call new_cluster g

      n : Name
      n = record { node = node_for x; local = local_for x }

      new : Cluster
      new = started g.width g.first g.second

      s : Store
      s = put_record c.store (record_for x) new

      v : InRange (node_for x) (local_for x)
      v = done_range f x c.store (length c.memory) e

      here : cluster_at s (record_for x) ≡ new
      here =
          put_same c.store (record_for x) new (omega (arith, shape.records, v.node_low, v.local_low))

      u : Width
      u = width_from g.width

      one_of : is_width g.width ≡ true
      one_of = not-false (is_width g.width) (done_width f x c.store (length c.memory) e)

      known : bits_of u ≡ g.width
      known = of_three (λ w. bits_of (width_from w) ≡ w) refl refl refl g.width one_of

      some : 0 < bits_of u
      some = of_three (λ w. 0 < bits_of (width_from w)) (omega arith) (omega arith) (omega arith) g.width one_of

      wide : bits_of u ≡ (cluster_at s (record_for x)).width
      wide = known ∙ ap (λ (d : Cluster). d.width) (sym here)

  -- what call 9 leaves of its record, and the password of the mode in it
  module _ (g : Arguments) (c : Copy) (e : Done f (call new_password g) c) where
    abbrev renewing : Call
    renewing = call new_password g

    abbrev renewal : Cluster
    renewal = with_password (about renewing c) g.mode g.first

    pub renewed_record : cluster_at (left new_password renewing c).store (record_for renewing) ≡ renewal
    unfolding left password_replaced
    renewed_record =
        put_same c.store (record_for renewing) renewal
        (active_in c.store (record_for renewing) (done_active f renewing c.store (length c.memory) e refl))

    pub renewed_password : primary_of renewal g.mode ≡ g.first
    renewed_password = go (done_mode f renewing c.store (length c.memory) e)
      where
        go : (g.mode ≡ read_mode) ⊎ (g.mode ≡ write_mode) → primary_of renewal g.mode ≡ g.first
        go (inl q) = ap (λ (m : ℕ). primary_of (with_password (about renewing c) m g.first) m) q
        go (inr q) = ap (λ (m : ℕ). primary_of (with_password (about renewing c) m g.first) m) q

  pub renewed_opens : RenewedOpens f
  unfolding left given password_replaced
  renewed_opens g c lp e =
      subst (Renewed f x c) (sym (step_done f x c e)) (record {
        handle = primary_refers u some (name_of (handle_of x)) g.first v.node_low v.local_low lp (bits_of u) refl;
        opens =
            primary_valid u some (name_of (handle_of x)) g.first v.node_low v.local_low lp g.mode s
            (done_wide f x c.store (length c.memory) e refl
            ∙ ap (λ (d : Cluster). d.width) (sym (renewed_record g c e)))
            (ap (λ (d : Cluster). primary_of d g.mode) (renewed_record g c e) ∙ renewed_password g c e);
        other =
            ap (λ (d : Cluster). primary_of d (other_mode g.mode)) (renewed_record g c e)
            ∙ other_stays (about x c) g.mode g.first (done_mode f x c.store (length c.memory) e);
      })
    where
      x : Call
      x = call new_password g

      u : Width
      u = (handle_of x).width

      some : 0 < bits_of u
      some = some_width (handle_of x) (each_known f x c.store (length c.memory) e (handle_of x) (inl refl))

      s : Store
      s = put_record c.store (record_for x) (with_password (about x c) g.mode g.first)

      v : InRange (node_for x) (local_for x)
      v = done_range f x c.store (length c.memory) e
