-- Calls 1 and 7. Weakening is that of the handle.
-- Assumes nothing.
use mathlib.Core.Path.{◌≡◌, refl, sym, ap, ap₂, ◌∙◌}
use mathlib.Core.Bool.{Bool, true, false, not, ◌||◌, cond, false≢true}
use mathlib.Core.List.{List, []}
use Prim.Native.Nat.{ℕ, ◌<◌}
use native.Mathlib.Omega.{arith}
use lib.Dec.{leb, eqb}
use lib.ListN.{length}
use Rattle.std.specs.Prelude.{Result, Ok, Err}
use Rattle.std.specs.Result.{IsErrAnd}
use Rattle.numbers.specs.declared.Number.{Number}
use Rattle.numbers.specs.Codes.{code, told}
use borrow.Author.Tests.{leb-false, not-false, eqb-true}
use Rattle.sizes.specs.Sizes.{nodes, clusters}
use Rattle.handle.specs.declared.Handle.{Handle}
use Rattle.handle.specs.declared.HandleBytes.{HandleBytes}
use Rattle.handle.specs.declared.Width.{Width}
use Rattle.handle.specs.Widths.{width_from}
use Rattle.handle.specs.declared.Weaker.{Weaker}
use Rattle.handle.specs.Handles.{Weakened, reply_of, name_of, width_of, first_of, laid, written, decoded, same_password, weakening}
use Rattle.handle.proofs.TripLaws.{encoded_none}
use Rattle.handle.specs.Conversion.{product}
use Rattle.handle.specs.Opens.{primary_bytes}
use Rattle.store.specs.declared.Cluster.{Cluster}
use Rattle.store.specs.declared.Store.{Store}
use Rattle.store.specs.Records.{started, record_of, cluster_at, put_record, record_at}
use Rattle.store.specs.Sound.{is_width, sound}
use Rattle.calls.specs.declared.Changed.{Changed}
use Rattle.calls.specs.declared.Given.TheVariants as gives
use Rattle.calls.specs.Calls.{Call, making_cluster, weakening_by}
use Rattle.calls.specs.Numbers.{number, tests}
use Rattle.calls.specs.Steps.{Reply, Outcome, no_bytes, handles, weaken_reply, aes_step, left, given, cluster_made}
use Rattle.calls.specs.Answers.{Answer, copy_of, ended, changed}
use Rattle.calls.proofs.StepLaws.{step_done}
use Rattle.calls.proofs.WeakenLaws.{step_weaken}
use Rattle.numbers.proofs.ToldLaws.{told_ok, exit_err}
use Rattle.calls.specs.Clear.{Clear}
use Rattle.calls.proofs.FirstLaws.{first_clear}
use Rattle.calls.proofs.CallLaws.{or_left, or_right}
use Rattle.refusals.specs.Given.{GivenPlace}
use Rattle.cluster.specs.inner.Creates.{create_rows}
use Rattle.cluster.proofs.CoreLaws.{exit_record}

-- ---- where none of the refusals of call 1 is told

module _ (sd : Bool) (c : Cluster) (current local width : ℕ) (r w : List ℕ) where
  module _ {X : Type 0} (q : Result X Number) (en : told q ≡ first_of (create_rows sd c current local width r w)) (x : X)
      (z : q ≡ Ok x) where
    clear : Clear (create_rows sd c current local width r w)
    clear = first_clear (create_rows sd c current local width r w) (omega arith) (sym en ∙ told_ok q x z)

    node_low : leb nodes current ≡ false
    node_low = or_left (leb nodes current) (leb clusters local) clear.1.0

    local_low : leb clusters local ≡ false
    local_low = or_right (leb nodes current) (leb clusters local) clear.1.0

    pub node_fits : current < 65536
    node_fits = let l = leb-false nodes current node_low in omega arith

    pub local_fits : local < 256
    local_fits = let l = leb-false clusters local local_low in omega arith

    pub width_fits : width < 256
    width_fits = go (eqb width 4) (eqb width 8) (eqb width 16) refl refl refl (not-false (is_width width) clear.1.1.0)
      where
        go : (a b o : Bool) → eqb width 4 ≡ a → eqb width 8 ≡ b → eqb width 16 ≡ o → a || (b || o) ≡ true → width < 256
        go true b o ea eb eo e = let k = eqb-true width 4 ea in omega arith
        go false true o ea eb eo e = let k = eqb-true width 8 eb in omega arith
        go false false true ea eb eo e = let k = eqb-true width 16 eo in omega arith
        go false false false ea eb eo e = absurd (false≢true e)

    there : record_at current local ≡ record_of current local
    there = simp (node_low, local_low)

-- ---- call 1

module _ (s : Store) (m : List ℕ) (current local width : ℕ) (r w : List ℕ) where
  abbrev x : Call
  x = making_cluster current local width r w

  -- the rows of the call on the record e
  abbrev rows_on : Bool → Bool → Bool → Cluster → ℕ
  rows_on sd a o e =
      cond (not sd) 1
      (cond (a || o) 2 (cond (not (is_width width)) 3 (cond e.active 6 (cond (same_password r w) 7 0))))

  on_named : number product x s (length m)
      ≡ rows_on (sound s (length m)) (leb nodes current) (leb clusters local) (cluster_at s (record_of current local))
  unfolding number tests
  on_named = refl

  -- on the record found: that of a bad place is not looked at
  on_found : number product x s (length m)
      ≡ rows_on (sound s (length m)) (leb nodes current) (leb clusters local) (cluster_at s (record_at current local))
  on_found = on_named ∙ go (leb nodes current) (leb clusters local)
    where
      go : (a o : Bool) → rows_on (sound s (length m)) a o (cluster_at s (record_of current local))
          ≡ rows_on (sound s (length m)) a o (cluster_at s (cond (a || o) 0 (record_of current local)))
      go true o = refl
      go false true = refl
      go false false = refl

  -- what a core leaves is what the step leaves
  abbrev Ends : Result Changed Number → Type 0
  Ends d = changed (record_at current local) s m d ≡ aes_step x (copy_of s m)

  module _ (sd : Bool) (c : Cluster) (g : GivenPlace sd c s m current local) {X : Type 0} (q : Result X Number)
      (en : told q ≡ first_of (create_rows sd c current local width r w)) where
    known : number product x s (length m) ≡ told q
    known =
        on_found
        ∙ ap₂ (λ (t : Bool) (e : Cluster). rows_on t (leb nodes current) (leb clusters local) e) (sym g.sound) (sym g.found)
        ∙ sym en

    pub new_cluster_refused : (n : Number) → q ≡ Err n → (d : Result Changed Number) → IsErrAnd d (λ k. k ≡ n) → Ends d
    new_cluster_refused n e = exit_record x s m q known n e refl (record_at current local)

    pub new_cluster_done : (y : X) → q ≡ Ok y → (u : Width) → u ≡ width_from width → (a b : HandleBytes)
        → a ≡ laid (primary_bytes u current local r) → b ≡ laid (primary_bytes u current local w)
        → (f : Cluster) → f ≡ started width r w → Ends (Ok (record { cluster = f; given = gives.Handles a b }))
    unfolding left given cluster_made
    new_cluster_done y z u eu a b ea eb f ef =
        (λ j.
        changed (record_at current local) s m
        (Ok (record {
          cluster = ef j;
          given =
              gives.Handles ((ea ∙ ap (λ (v : Width). laid (primary_bytes v current local r)) eu) j)
              ((eb ∙ ap (λ (v : Width). laid (primary_bytes v current local w)) eu) j);
        })))
        ∙ ap
        (λ (i : ℕ).
        record {
          copy = copy_of (put_record s i (started width r w)) m;
          reply = handles (primary_bytes (width_from width) current local r) (primary_bytes (width_from width) current local w) 0;
        })
        (there sd c current local width r w q en y z)
        ∙ sym (step_done product x (copy_of s m) (known ∙ told_ok q y z))

-- ---- call 7

module _ (mask : ℕ) (g : Handle) (r : Result Weaker Number)
    (er : reply_of r ≡ weakening (width_of g) (product (name_of g)) g mask) (b : List ℕ) (s : Store) (m : List ℕ)
    (eg : g ≡ decoded b) where
  weaken_step : ◌≡◌ {A = Outcome} (record { copy = copy_of s m; reply = weaken_reply (reply_of r) })
      (aes_step (weakening_by mask b) (copy_of s m))
  weaken_step =
      ap (λ (v : Weakened). record { copy = copy_of s m; reply = weaken_reply v })
      (er ∙ ap (λ (k : Handle). weakening (width_of k) (product (name_of k)) k mask) eg)
      ∙ sym (step_weaken product (weakening_by mask b).args (copy_of s m))

  pub weaken_refused : (n : Number) → r ≡ Err n → (a : Answer) → IsErrAnd a (λ k. k ≡ n)
      → ended s m a [] ≡ aes_step (weakening_by mask b) (copy_of s m)
  unfolding written
  weaken_refused n e a w =
      ap (λ (q : Answer). ended s m q []) (exit_err r n e a w)
      ∙ ap (λ (l : List ℕ). record { copy = copy_of s m; reply = bare l }) (sym encoded_none)
      ∙ ap (λ (q : Result Weaker Number). record { copy = copy_of s m; reply = weaken_reply (reply_of q) }) (sym e)
      ∙ weaken_step
    where
      bare : List ℕ → Reply
      bare l =
          record { number = code n; first = laid l; second = laid no_bytes; count = 0; length = 0; buffer = []; shown = [] }

  pub weaken_done : (w : Weaker) → r ≡ Ok w → (e : HandleBytes) → e ≡ written w.handle
      → ended s m (Ok (gives.Counted e w.count)) [] ≡ aes_step (weakening_by mask b) (copy_of s m)
  weaken_done w z e ee =
      ap (λ (y : HandleBytes). ended s m (Ok (gives.Counted y w.count)) []) ee
      ∙ ap (λ (q : Result Weaker Number). record { copy = copy_of s m; reply = weaken_reply (reply_of q) }) (sym z)
      ∙ weaken_step
