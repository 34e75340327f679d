-- Many handles: the number that each gets from the core is the one that it gets by itself, since a damaged image and an
-- unsound store are both refused before anything else is looked at, with 25 where a handle's length is wrong, else with 1.
-- Assumes nothing.
use mathlib.Core.Path.{◌≡◌, refl, sym, ap, ◌∙◌}
use mathlib.Core.Bool.{Bool, true, false, ◌&&◌}
use mathlib.Core.List.{List, []}
use Prim.Native.Nat.{ℕ, zero, suc, ◌+◌, ◌≤◌, ◌<◌}
use native.Mathlib.Omega.{arith}
use borrow.Author.Tests.{lt-ltb}
use lib.ListN.{length, set, length-set}
use Rattle.loops.proofs.TabulateLaws.{Filled, filled_none, filled_more, filled_all}
use Rattle.handle.specs.declared.Handle.{Handle}
use Rattle.handle.specs.Handles.{node_of, decoded}
use Rattle.handle.specs.Conversion.{product}
use Rattle.store.specs.declared.Cluster.{Cluster}
use Rattle.store.specs.declared.Store.{Store}
use Rattle.store.specs.Records.{cluster_at, record_at}
use Rattle.store.specs.Sound.{sound}
use Rattle.calls.specs.Calls.{Copy, Call, Arguments, call, validate, validating}
use Rattle.calls.specs.Numbers.{number, bad_length}
use Rattle.calls.specs.Steps.{plain, Outcome, left as lefts, outcome, step, aes_step}
use Rattle.calls.specs.Answers.{copy_of}
use Rattle.calls.proofs.StepLaws.{step_refused}
use Rattle.refusals.specs.Given.{Given, record_found}
use Rattle.image.specs.Parts.{slot}
use Rattle.image.specs.Images.{good, store_in, image_of}
use Rattle.std.specs.Prelude.{Result, Ok, Err}
use Rattle.std.specs.Result.{IsErrAnd}
use Rattle.numbers.specs.declared.Number.{Number}
use Rattle.numbers.specs.Codes.{told}
use Rattle.numbers.proofs.ToldLaws.{exit_err}
use Rattle.refusals.specs.declared.Opened.{Opened}
use Rattle.refusals.specs.Given.{OpenedFrom}
use Rattle.gelmuszta.specs.inner.Found.{Looks}
use Rattle.gelmuszta.proofs.FoundLaws.{refused_lent}
use Rattle.gelmuszta.specs.Exported.{leaving, early, exported, Gives}
use Rattle.gelmuszta.specs.Validation.{number_of, fewer, Judged, BatchCases}
use Rattle.gelmuszta.proofs.ReplyLaws.{validate_silent, silent_known}
use Rattle.gelmuszta.proofs.ExportLaws.{picked, number_early}

-- ---- how many

pub fewer_first : (a b : ℕ) → a < b → a ≡ fewer a b
fewer_first a b h = sym (ap (λ (t : Bool). elim t [ true ↦ a | false ↦ b ]) (lt-ltb a b h))

-- ---- one handle

-- what validation gives by itself, from the core: where the image is damaged, what the core is given could as well come
-- from a store whose slice is empty, which is refused alike
pub number_told : (sd : Bool) (b : List ℕ) (mode : ℕ) (m : List ℕ) → sd ≡ (good b && sound (store_in b) (length m)) → (hb : List ℕ)
    (h : Handle) → h ≡ decoded hb → (c : Cluster) → c ≡ cluster_at (store_in b) (record_found h) → (n : ℕ)
    → ((s : Store) (k d : List ℕ) → Given sd h c s k d → n ≡ (aes_step (validating mode d) (copy_of s k)).reply.number)
    → n ≡ number_of b m mode hb
unfolding exported sound
number_told sd b mode m es hb h eh c ec n core = go (good b) refl
  where
    x : Call
    x = validating mode hb

    some : (none : Bool) → early none false ≡ 0 → ⊥
    some true z = omega (arith, z)
    some false z = omega (arith, z)

    -- with an empty slice
    refused : (aes_step x (copy_of (store_in b) [])).reply.number ≡ early (bad_length x) false
    refused =
        ap (λ (o : Outcome). o.reply.number)
        (step_refused product x (copy_of (store_in b) []) (early (bad_length x) false)
        (number_early x (store_in b) 0 (bad_length x) refl refl refl) (some (bad_length x)))

    go : (g : Bool) → good b ≡ g → n ≡ (picked x b m (good b)).reply.number
    go true eg =
        core (store_in b) m hb
        (record { sound = es ∙ ap (λ (u : Bool). u && sound (store_in b) (length m)) eg; handle = eh; found = ec })
        ∙ sym (ap (λ (u : Bool). (picked x b m u).reply.number) eg)
    go false eg =
        core (store_in b) [] hb
        (record { sound = es ∙ ap (λ (u : Bool). u && sound (store_in b) (length m)) eg; handle = eh; found = ec })
        ∙ refused ∙ sym (ap (λ (u : Bool). (picked x b m u).reply.number) eg)

validate_leaves : (g : Arguments) (c : Copy) → (aes_step (call validate g) c).copy ≡ c
unfolding step lefts
validate_leaves g c = go (number product (call validate g) c.store (length c.memory))
  where
    go : (n : ℕ) → (outcome product n (call validate g) c).copy ≡ c
    go zero = refl
    go (suc n) = refl

-- where it is refused before all else
pub validate_refused : (b : List ℕ) (mode : ℕ) (hb : List ℕ) (n : Number) → Looks (Err n) b (decoded hb) → (q : Result (Unit {0}) Number)
    → IsErrAnd q (λ k. k ≡ n) → Gives (validating mode hb) b (plain (told q) []) b
validate_refused b mode hb n w q i m em =
    ap (λ (r : Result (Unit {0}) Number). leaving (plain (told r) []) b m) (exit_err {X = Opened} (Err n) n refl q i)
    ∙ refused_lent b hb n w (validating mode hb) refl refl [] refl m em

-- and nothing else
pub validate_any : (b : List ℕ) (mode : ℕ) (hb : List ℕ) (o : Opened) → Looks (Ok o) b (decoded hb) → (r : Result (Unit {0}) Number)
    → ((s : Store) (k d : List ℕ) → OpenedFrom o s k d → told r ≡ (aes_step (validating mode d) (copy_of s k)).reply.number)
    → Gives (validating mode hb) b (plain (told r) []) b
unfolding exported
validate_any b mode hb o w r core m em =
    ap (λ (k : ℕ). leaving (plain k []) b m)
    (number_told o.sound b mode m (w.opened.judged ∙ ap (λ (k : ℕ). good b && sound (store_in b) k) (sym em)) hb o.handle w.opened.handle
    o.cluster (w.opened.cluster ∙ sym (ap (λ (k : Handle). cluster_at (store_in b) (record_found k)) w.opened.handle)) (told r) core)
    ∙ go (good b) refl
  where
    x : Call
    x = validating mode hb

    left : Outcome
    left = aes_step x (copy_of (store_in b) m)

    go : (g : Bool) → good b ≡ g
        → leaving (plain (picked x b m (good b)).reply.number []) b m ≡ picked x b m (good b)
    go true eg =
        ap (λ (u : Bool). leaving (plain (picked x b m u).reply.number []) b m) eg
        ∙ (λ j.
        record {
          reply = silent_known x (copy_of (store_in b) m) (validate_silent x.args) j;
          image = (sym (w.whole eg) ∙ ap (λ (c : Copy). image_of c.store) (sym (validate_leaves x.args (copy_of (store_in b) m)))) j;
          memory = ap (λ (c : Copy). c.memory) (sym (validate_leaves x.args (copy_of (store_in b) m))) j;
        })
        ∙ sym (ap (picked x b m) eg)
    go false eg =
        ap (λ (u : Bool). leaving (plain (picked x b m u).reply.number []) b m) eg
        ∙ sym (ap (picked x b m) eg)

-- ---- the loop

-- before turn i the first i numbers are those of the handles, for every memory that is judged so
pub record Judging (sd : Bool) (b : List ℕ) (mode each : ℕ) (hs before now : List ℕ) (i : ℕ) : Type 0 where
  pub size : length now ≡ length before
  pub low : i ≤ length before
  pub filled : (m : List ℕ) → sd ≡ (good b && sound (store_in b) (length m))
      → Filled (length before) (λ k. number_of b m mode (slot each hs k)) 0 i now

module _ (sd : Bool) (b : List ℕ) (mode each : ℕ) (hs before : List ℕ) where
  pub judging_none : Judging sd b mode each hs before before 0
  judging_none =
      record { size = refl; low = omega arith; filled = λ m e. filled_none (length before) _ 0 before refl }

  module _ (now : List ℕ) (i : ℕ) (w : Judging sd b mode each hs before now i) where
    -- the handle of this turn
    pub judging_more : i < length now → (h : Handle) → h ≡ decoded (slot each hs i) → (v : ℕ) → v ≡ node_of h
        → (c : Cluster) → c ≡ cluster_at (store_in b) (record_at v h.local) → (r : Result (Unit {0}) Number)
        → ((s : Store) (k d : List ℕ) → Given sd h c s k d → told r ≡ (aes_step (validating mode d) (copy_of s k)).reply.number)
        → (n : ℕ) → n ≡ told r → Judging sd b mode each hs before (set now i n) (i + 1)
    judging_more l h eh v ev c ec r core n en =
        record {
          size = length-set now i n ∙ w.size;
          low = let e = w.size in omega arith;
          filled =
              λ m e.
              filled_more (length before) _ 0 i now (w.filled m e) (let q = w.size in omega arith) n
              (number_told sd b mode m e (slot each hs i) h eh
              c (ec ∙ ap (λ (u : ℕ). cluster_at (store_in b) (record_at u h.local)) ev) n (λ s k d g. en ∙ core s k d g));
        }

    pub judging_all : length now ≤ i → Judged sd b mode each hs before now
    judging_all l =
        record { each = λ m e. filled_all (length before) _ 0 i now (w.filled m e) (let q = w.size in omega arith) }

-- ---- written out

pub batch_cases : BatchCases
batch_cases = record { widths = refl; three = refl; one = refl }
