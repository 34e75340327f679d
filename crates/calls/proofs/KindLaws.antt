-- The kinds that a list names. There are thirteen, so a test of a kind that gives at each of them what a list gives is the
-- list's: one computed comparison.
-- Assumes nothing.
use mathlib.Core.Path.{◌≡◌, refl, sym, ap, ◌∙◌}
use mathlib.Core.Logic.{◌≢◌, inl, inr}
use Prim.Native.Nat.{ℕ}
use mathlib.Core.Bool.{Bool, true, false, not, ◌||◌, false≢true}
use mathlib.Core.List.{List, [], ◌∷◌, map}
use lib.Dec.{eqb}
use lib.ListN.{get_or}
use Rattle.calls.specs.Calls.{Call, Kind, new_cluster, delete_cluster, new_segment, delete_segment, read, write, weaken}
use Rattle.calls.specs.Calls.{reduce, new_password, freeze, join, validate, look}
use Rattle.calls.specs.Words.{Named}
use Rattle.calls.proofs.TestLaws.{Is, map_is, same_is, not_is, or_is, eq_is}

abbrev pub kinds : List Kind
kinds =
    new_cluster
    ∷ delete_cluster
    ∷ new_segment
    ∷ delete_segment
    ∷ read
    ∷ write
    ∷ weaken
    ∷ reduce
    ∷ new_password
    ∷ freeze
    ∷ join
    ∷ validate
    ∷ look
    ∷ []

-- where a kind stands in that list
abbrev place_of : Kind → ℕ
place_of new_cluster = 0
place_of delete_cluster = 1
place_of new_segment = 2
place_of delete_segment = 3
place_of read = 4
place_of write = 5
place_of weaken = 6
place_of reduce = 7
place_of new_password = 8
place_of freeze = 9
place_of join = 10
place_of validate = 11
place_of look = 12

at_place : {A : Type 0} (g : Kind → A) (d : A) (k : Kind) → get_or (map g kinds) (place_of k) d ≡ g k
at_place g d new_cluster = refl
at_place g d delete_cluster = refl
at_place g d new_segment = refl
at_place g d delete_segment = refl
at_place g d read = refl
at_place g d write = refl
at_place g d weaken = refl
at_place g d reduce = refl
at_place g d new_password = refl
at_place g d freeze = refl
at_place g d join = refl
at_place g d validate = refl
at_place g d look = refl

place_same : (k j : Kind) → place_of k ≡ place_of j → k ≡ j
place_same k j e =
    sym (at_place (λ (i : Kind). i) new_cluster k)
    ∙ ap (λ (n : ℕ). get_or (map (λ (i : Kind). i) kinds) n new_cluster) e
    ∙ at_place (λ (i : Kind). i) new_cluster j

-- the list's own test
abbrev pub one : List Kind → Kind → Bool
one [] k = false
one (j ∷ js) k = eqb (place_of k) (place_of j) || one js k

one_is : (ks : List Kind) (x : Call) → Is (one ks x.kind) (Named ks x)
unfolding Named
one_is [] x = record { out = λ e. false≢true e; into = λ e. absurd e }
one_is (j ∷ js) x =
    or_is (map_is (place_same x.kind j) (ap place_of) (eq_is (place_of x.kind) (place_of j))) (one_is js x)

module _ (t : Kind → Bool) where
  same_kind : (u : Kind → Bool) → map t kinds ≡ map u kinds → (k : Kind) → t k ≡ u k
  same_kind u e k =
      sym (at_place t false k) ∙ ap (λ (l : List Bool). get_or l (place_of k) false) e ∙ at_place u false k

  -- a test of the kinds that a list names, and of all kinds but one
  pub kind_is : (ks : List Kind) → map t kinds ≡ map (one ks) kinds → (x : Call) → Is (t x.kind) (Named ks x)
  kind_is ks e x = same_is (same_kind (one ks) e x.kind) (one_is ks x)

  pub but_is : {j : Kind} → map t kinds ≡ map (λ (k : Kind). not (one (j ∷ []) k)) kinds → (x : Call)
      → Is (t x.kind) (x.kind ≢ j)
  unfolding Named
  but_is {j} e x =
      same_is (same_kind (λ k. not (one (j ∷ []) k)) e x.kind)
      (map_is (λ n q. n (inl q)) none (not_is (one_is (j ∷ []) x)))
    where
      none : x.kind ≢ j → ¬ Named (j ∷ []) x
      none n (inl q) = n q
      none n (inr q) = q

-- where a test of the kinds holds, another one does
pub kind_then : (t u : Kind → Bool) → map (λ k. not (t k) || u k) kinds ≡ map (λ k. true) kinds → (k : Kind) → t k ≡ true
    → u k ≡ true
kind_then t u e k h =
    ap (λ (v : Bool). not v || u k) (sym h) ∙ same_kind (λ k. not (t k) || u k) (λ k. true) e k

-- a list of one kind names that one
pub only_kind : (j : Kind) (x : Call) → Named (j ∷ []) x → x.kind ≡ j
unfolding Named
only_kind j x (inl e) = e
only_kind j x (inr e) = absurd e

-- a list that does not name the kind j names other kinds alone
pub other_kind : (ks : List Kind) {j : Kind} → one ks j ≡ false → (x : Call) → Named ks x → x.kind ≢ j
other_kind ks e x n q = false≢true (sym e ∙ ap (one ks) (sym q) ∙ (one_is ks x).into n)
