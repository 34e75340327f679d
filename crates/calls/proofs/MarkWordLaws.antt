-- Marks aside. Row by row two stores that are the same but for marks agree: a row sees the passwords, whether a cluster is
-- active, or the places, and none of the marks but the two rows of 22, which look at the call's own. What a call done gives
-- is made from the same.
-- Assumes nothing.
use mathlib.Core.Path.{◌≡◌, refl, ap, ◌∙◌}
use mathlib.Core.Logic.{◌⊎◌, inl, inr}
use Prim.Native.Nat.{ℕ, zero, suc, ◌+◌}
use mathlib.Core.Bool.{Bool, true, false, not, ◌&&◌}
use mathlib.Core.List.{List, [], ◌∷◌, ◌++◌}
use lib.Dec.{ltb, eqb}
use lib.ListN.{length, take, drop}
use Rattle.loops.specs.Below.{every}
use Rattle.loops.specs.Search.{least}
use Rattle.loops.proofs.BelowLaws.{every_same}
use Rattle.sizes.specs.Sizes.{nodes, clusters, segments, node_memory}
use Rattle.numbers.specs.Numbers.{no_room_number}
use Rattle.handle.specs.Handles.{Name, name_of, width_of, Row, same_password, validates, encoded, reduced, joined}
use Rattle.store.specs.Places.{Place, present_at}
use Rattle.store.specs.declared.Store.{Store}
use Rattle.store.specs.Records.{record_of, table_at, frozen_of, none_frozen, length_of, base_of, address}
use Rattle.store.specs.Records.{read_mode, cluster_at, primary_of}
use Rattle.store.specs.Sound.{is_absent, inside, apart, sound}
use Rattle.store.specs.Placement.{Placed, placed_at, clear, fits, new_base, placement}
use Rattle.calls.specs.Calls.{Call, Kind, new_cluster, delete_cluster, new_segment, delete_segment}
use Rattle.calls.specs.Calls.{read, write, weaken, reduce, new_password, freeze, join, validate, look, among, is_look}
use Rattle.calls.specs.Calls.{opens, needed, handle_of, other_of, presented, any_of, buffer, node_for, record_for, record_named}
use Rattle.calls.specs.Calls.{place_for, frozen_for}
use Rattle.calls.specs.Numbers.{unsound, in_use, inactive_cluster, other_width, valid, violated, cluster_frozen, old_password}
use Rattle.calls.specs.Numbers.{segment_present, segment_absent, segment_frozen, short, full_node, rows, number}
use Rattle.calls.specs.Words.{Named}
use Rattle.calls.specs.Steps.{read_reply, look_reply, handles, no_bytes, segment_read, segment_shown, given}
use Rattle.calls.specs.Steps.{within, outcome, step}
use Rattle.calls.specs.Answers.{copy_of}
use Rattle.calls.specs.MarkWords.{SameButMarks, OwnMarks, MarksAside}
use Rattle.calls.proofs.FirstLaws.{Agree, first_agree, ◌▸◌}
use Rattle.calls.proofs.KindLaws.{kind_is, only_kind}

-- placement goes by the places alone
abbrev placement_by : (ℕ → ℕ → Place) → ℕ → ℕ → Placed
placement_by p node size =
    placed_at (least node_memory (λ base.
    ltb node nodes && inside (present_at base size)
    && every clusters (λ l. every segments (λ i. apart (present_at base size) (p (record_of node l) i)))))

-- the password of a mode is the same
password : (a b : Store) → SameButMarks a b → (n mode : ℕ)
    → primary_of (cluster_at a n) mode ≡ primary_of (cluster_at b n) mode
password a b same n mode = λ j. elim (eqb mode read_mode) [ true ↦ same.read n j | false ↦ same.write n j ]

module _ (f : Name → List ℕ → ℕ → List ℕ) (x : Call) (a b : Store) (size : ℕ) (sa : sound a size ≡ true)
    (sb : sound b size ≡ true) (same : SameButMarks a b) (own : OwnMarks x a b) where
  place : place_for x (table_at a) ≡ place_for x (table_at b)
  place = same.places (record_for x) x.args.segment

  -- ---- the rows

  one : unsound size x a ≡ unsound size x b
  unfolding unsound
  one = rw (sa, sb)

  six : in_use x (table_at a) ≡ in_use x (table_at b)
  unfolding in_use
  six = ap (λ (t : Bool). among (1 ∷ []) x.kind && t) (same.active (record_for x))

  eight : inactive_cluster x (table_at a) ≡ inactive_cluster x (table_at b)
  unfolding inactive_cluster
  eight = λ j. opens x.kind && any_of (λ h. not (same.active (record_named h) j)) (presented x)

  other : other_width x (table_at a) ≡ other_width x (table_at b)
  unfolding other_width
  other = λ j. opens x.kind && any_of (λ h. not (eqb (width_of h) (same.width (record_named h) j))) (presented x)

  nine : violated f x a ≡ violated f x b
  unfolding violated valid
  nine =
      λ j.
      opens x.kind
      && any_of
      (λ h. not
      (eqb (width_of h) (same.width (record_named h) j)
      && validates (width_of h) (f (name_of h)) (password a b same (record_named h) (needed x) j) h))
      (presented x)

  frozen_cluster : cluster_frozen x (table_at a) ≡ cluster_frozen x (table_at b)
  unfolding cluster_frozen none_frozen
  frozen_cluster = go (among (2 ∷ []) x.kind) refl
    where
      go : (t : Bool) → among (2 ∷ []) x.kind ≡ t
          → (t && not (every segments (λ i. not (frozen_of (table_at a (record_for x)) i))))
          ≡ (t && not (every segments (λ i. not (frozen_of (table_at b (record_for x)) i))))
      go true e =
          ap not
          (every_same segments _ _ (λ i h.
          ap not (own.cluster (only_kind delete_cluster x ((kind_is (among (2 ∷ [])) _ refl x).out e)) i h)))
      go false e = refl

  twelve : old_password x a ≡ old_password x b
  unfolding old_password
  twelve =
      λ j.
      among (9 ∷ []) x.kind
      && same_password x.args.first (password a b same (record_for x) x.args.mode j)

  thirteen : segment_present x (table_at a) ≡ segment_present x (table_at b)
  unfolding segment_present
  thirteen = ap (λ (p : Place). among (3 ∷ []) x.kind && not (is_absent p)) place

  fourteen : segment_absent x (table_at a) ≡ segment_absent x (table_at b)
  unfolding segment_absent
  fourteen = ap (λ (p : Place). among (4 ∷ 5 ∷ 6 ∷ 10 ∷ []) x.kind && is_absent p) place

  frozen_segment : segment_frozen x (table_at a) ≡ segment_frozen x (table_at b)
  unfolding segment_frozen Named
  frozen_segment = go (among (4 ∷ 6 ∷ []) x.kind) refl
    where
      kind : Named (delete_segment ∷ write ∷ []) x → (x.kind ≡ delete_segment) ⊎ (x.kind ≡ write)
      kind (inl e) = inl e
      kind (inr (inl e)) = inr e
      kind (inr (inr e)) = absurd e

      go : (t : Bool) → among (4 ∷ 6 ∷ []) x.kind ≡ t → (t && frozen_for x (table_at a)) ≡ (t && frozen_for x (table_at b))
      go true e = own.segment (kind ((kind_is (among (4 ∷ 6 ∷ [])) (delete_segment ∷ write ∷ []) refl x).out e))
      go false e = refl

  fifteen : short x (table_at a) ≡ short x (table_at b)
  unfolding short
  fifteen =
      ap (λ (p : Place). (among (5 ∷ 6 ∷ []) x.kind && not (is_look x.kind)) && ltb (length (buffer x)) (length_of p)) place

  sixteen : full_node x (table_at a) ≡ full_node x (table_at b)
  unfolding full_node placement new_base fits clear
  sixteen =
      λ j.
      among (3 ∷ []) x.kind
      && eqb (placement_by (λ n i. same.places n i j) (node_for x) x.args.size).number no_room_number

  abbrev told : ℕ → Bool → Row
  told n t = record { number = n; applies = t }

  same_rows : Agree x a b (rows f size)
  same_rows =
      refl ▸ λ e25.
      ap (told 1) one ▸ λ e1.
      refl ▸ λ e2.
      refl ▸ λ e3.
      refl ▸ λ e4.
      refl ▸ λ e24.
      refl ▸ λ e5.
      ap (told 6) six ▸ λ e6.
      refl ▸ λ e7.
      ap (told 8) eight ▸ λ e8.
      ap (told 25) other ▸ λ q25.
      ap (told 9) nine ▸ λ e9.
      refl ▸ λ e23.
      refl ▸ λ e10.
      ap (told 22) frozen_cluster ▸ λ e22.
      refl ▸ λ e11.
      ap (told 12) twelve ▸ λ e12.
      ap (told 13) thirteen ▸ λ e13.
      ap (told 14) fourteen ▸ λ e14.
      ap (told 22) frozen_segment ▸ λ q22.
      ap (told 15) fifteen ▸ λ e15.
      ap (told 16) sixteen ▸ λ e16.
      refl ▸ λ e21.
      refl ▸ λ e17. tt

  pub number_aside : number f x a size ≡ number f x b size
  unfolding number
  number_aside = first_agree x a b (rows f size) same_rows

-- ---- the reply

module _ (f : Name → List ℕ → ℕ → List ℕ) (x : Call) (a b : Store) (m : List ℕ) (same : SameButMarks a b) where
  abbrev here : place_for x (table_at a) ≡ place_for x (table_at b)
  here = same.places (record_for x) x.args.segment

  abbrev own : primary_of (cluster_at a (record_for x)) x.args.mode ≡ primary_of (cluster_at b (record_for x)) x.args.mode
  own = password a b same (record_for x) x.args.mode

  same_given : (k : Kind) → given f k x (copy_of a m) ≡ given f k x (copy_of b m)
  unfolding given segment_read segment_shown
  same_given new_cluster = refl
  same_given delete_cluster = refl
  same_given new_segment = refl
  same_given delete_segment = refl
  same_given read =
      ap
      (λ (p : Place).
      read_reply (length_of p)
      (take (length_of p) (drop (address (node_for x) (base_of p)) m) ++ drop (length_of p) (buffer x)))
      here
  same_given write = refl
  same_given weaken = refl
  same_given reduce =
      ap (λ (p : List ℕ). handles (encoded (reduced (width_of (handle_of x)) (f (name_of (handle_of x))) (handle_of x) p)) no_bytes 0)
      own
  same_given new_password = refl
  same_given freeze = refl
  same_given join =
      ap
      (λ (p : List ℕ).
      handles (encoded (joined (width_of (handle_of x)) (f (name_of (handle_of x))) (handle_of x) (other_of x) p)) no_bytes 0)
      own
  same_given validate = refl
  same_given look =
      ap
      (λ (p : Place).
      look_reply 0
      (within
      (record { from = address (node_for x) (base_of p); to = address (node_for x) (base_of p) + length_of p }) m))
      here

module _ (f : Name → List ℕ → ℕ → List ℕ) where
  pub marks_aside : MarksAside f
  unfolding step
  marks_aside x a b m sa sb same own =
      ap (λ (n : ℕ). (outcome f n x (copy_of a m)).reply) (number_aside f x a b (length m) sa sb same own)
      ∙ go (number f x b (length m))
    where
      go : (n : ℕ) → (outcome f n x (copy_of a m)).reply ≡ (outcome f n x (copy_of b m)).reply
      go zero = same_given f x a b m same x.kind
      go (suc n) = refl
