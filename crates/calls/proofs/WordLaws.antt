-- Each row's test is true just where the row's words hold. What the data about the kinds says (`uses`, `needed`, the
-- record that a call is about) is worked out for the kinds that the row names; the rest is the test's own parts in words.
-- Rows 9, 12 and 16 are told that no words above them hold: there is a mode, a node and a size, and the store is sound.
-- Assumes nothing.
use mathlib.Core.Path.{◌≡◌, refl, sym, ap, ◌∙◌, subst}
use mathlib.Core.Logic.{◌≢◌, ◌⊎◌, inl, inr}
use Prim.Native.Nat.{ℕ, ◌<◌}
use native.Mathlib.Decide.{ℕ_discrete}
use native.Mathlib.Omega.{arith}
use mathlib.Core.Bool.{Bool, true, false, not, ◌&&◌, ◌||◌, false≢true}
use mathlib.Core.List.{List, [], ◌∷◌}
use lib.Dec.{eqb, ltb}
use lib.ListN.{length}
use borrow.Author.Tests.{ltb-true, lt-ltb}
use Rattle.handle.specs.declared.Handle.{Handle}
use Rattle.handle.specs.Selectors.{all_flat, gapped}
use Rattle.handle.specs.Handles.{node_of, width_of, no_width, decoded, same_password, no_such_place}
use Rattle.store.specs.Places.{Place, None, Some, present_at}
use Rattle.store.specs.declared.Cluster.{Cluster}
use Rattle.store.specs.declared.Store.{Store}
use Rattle.store.specs.Records.{table_of, cluster_at, table_at, frozen_of, none_frozen, length_of, primary_of}
use Rattle.store.specs.Sound.{is_absent, sound}
use Rattle.store.specs.Placement.{placement}
use Rattle.store.specs.SoundWords.{SoundInWords}
use Rattle.store.specs.PlacementWords.{Room}
use Rattle.store.proofs.SoundWordLaws.{sound_in_words}
use Rattle.store.proofs.PlacementWordLaws.{placement_in_words}
use Rattle.calls.specs.Calls.{Call, Kind, call, new_segment, read, write, weaken, new_password}
use Rattle.calls.specs.Calls.{among, is_look, uses, needed, handle_of, other_of}
use Rattle.calls.specs.Calls.{buffer, record_named}
use Rattle.calls.specs.Numbers.{bad_length, unsound, no_place, bad_mode, bad_segment, bad_size, bad_width, bad_field, gapped_handle, join_apart, elsewhere}
use Rattle.calls.specs.Numbers.{in_use, twins, inactive_cluster, other_width, join_whole, not_primary, cluster_frozen, not_referenced, old_password}
use Rattle.calls.specs.Numbers.{segment_present, segment_absent, segment_frozen, short, full_node, empty_handle, spent_handle}
use Rattle.calls.specs.Words.{Named, NoLength, GappedHandle, SamePassword, cluster_of, Current, place, BadLength, Unsound, NoSuchPlace, Field}
use Rattle.calls.specs.Words.{Gapped, Apart, Whole, Elsewhere, InUse, Twins, Inactive, OtherWidth, NotPrimary, NotReferenced, OldPassword}
use Rattle.calls.specs.Words.{ClusterFrozen, SegmentPresent, SegmentAbsent, SegmentFrozen, Short, NoRoom, Empty, Spent}
use Rattle.calls.proofs.TestLaws.{Is, map_is, same_is, off_is, not_is, then_is, and_is, or_is, three_is, four_is, holds_is}
use Rattle.calls.proofs.TestLaws.{fails_is, eq_is, le_is, lt_is, some_is}
use Rattle.calls.proofs.KindLaws.{kind_is, only_kind, but_is, other_kind}
use Rattle.calls.proofs.CallLaws.{mode_known}
use Rattle.calls.proofs.SelectorWords.{references_is, other_is, gapped_is, empty_is, spent_is, whole_is, password_is, four}
use Rattle.calls.proofs.PresentedWords.{local_is, opens_is, own_record, handle_record, handle_node, handle_place}
use Rattle.calls.proofs.PresentedWords.{handled_is, join_is, each_handle, presented_is, alone_is}
use Rattle.calls.proofs.HandleWords.{handle_in_words, none_length}

-- the password of one mode or of the other
pub current_is : (m : ℕ) (c : Cluster) (p : List ℕ) → (m ≡ 1) ⊎ (m ≡ 2) → Is (same_password p (primary_of c m)) (Current m c p)
current_is m c p (inl e) =
    same_is (ap (λ (k : ℕ). same_password p (primary_of c k)) e) (map_is (λ w. inl (e, w)) back (password_is p c.read))
  where
    back : Current m c p → SamePassword p c.read
    back (inl (q, w)) = w
    back (inr (q, w)) = absurd (omega arith)
current_is m c p (inr e) =
    same_is (ap (λ (k : ℕ). same_password p (primary_of c k)) e) (map_is (λ w. inr (e, w)) back (password_is p c.write))
  where
    back : Current m c p → SamePassword p c.write
    back (inl (q, w)) = absurd (omega arith)
    back (inr (q, w)) = w

module _ (x : Call) where
  -- ---- the rows of the call alone

  pub no_place_is : Is (no_place x) (NoSuchPlace x)
  unfolding no_place
  no_place_is =
      three_is
      (presented_is x no_such_place (λ h. (3 < node_of h) ⊎ (7 < h.local)) (λ h. place_is (handle_of x)) (λ h. place_is (other_of x)))
      (and_is (kind_is (λ k. (uses k).current) _ refl x) (le_is 4 x.args.current))
      (and_is (local_is x) (le_is 8 x.args.local))
    where
      place_is : (h : Handle) → Is (no_such_place h) ((3 < node_of h) ⊎ (7 < h.local))
      place_is h = or_is (le_is 4 (node_of h)) (le_is 8 h.local)

  pub bad_length_is : Is (bad_length x) (BadLength x)
  unfolding bad_length
  bad_length_is =
      same_is (each_handle x no_width)
      (or_is (and_is (handled_is x) (length_is x.args.handle)) (and_is (join_is x) (length_is x.args.other)))
    where
      length_is : (b : List ℕ) → Is (no_width (decoded b)) (NoLength b)
      length_is b = map_is (none_length b) (λ n. (handle_in_words b).other n) (eq_is (width_of (decoded b)) 0)

  pub bad_field_is : Is (bad_field x) (Field x)
  unfolding bad_field bad_mode bad_segment bad_size bad_width
  bad_field_is =
      four_is
      (map_is (λ r. (r.0, λ e. r.1 (inl e), λ e. r.1 (inr e))) (λ r. (r.0, neither r.1 r.2))
      (and_is (kind_is (λ k. (uses k).mode) _ refl x) (not_is (or_is (eq_is x.args.mode 1) (eq_is x.args.mode 2)))))
      (and_is (kind_is (λ k. (uses k).segment) _ refl x) (le_is (width_of (handle_of x)) x.args.segment))
      (and_is (kind_is (λ k. (uses k).size) _ refl x)
      (or_is (eq_is x.args.size 0) (lt_is 4096 x.args.size)))
      (map_is (λ r. (r.0, λ e. r.1 (inl e), λ e. r.1 (inr (inl e)), λ e. r.1 (inr (inr e))))
      (λ r. (r.0, none r.1 r.2 r.3))
      (and_is (kind_is (λ k. (uses k).width) _ refl x)
      (not_is (or_is (eq_is x.args.width 4) (or_is (eq_is x.args.width 8) (eq_is x.args.width 16))))))
    where
      none : x.args.width ≢ 4 → x.args.width ≢ 8 → x.args.width ≢ 16
          → ¬ ((x.args.width ≡ 4) ⊎ (x.args.width ≡ 8) ⊎ (x.args.width ≡ 16))
      none a b c (inl e) = a e
      none a b c (inr (inl e)) = b e
      none a b c (inr (inr e)) = c e

      neither : x.args.mode ≢ 1 → x.args.mode ≢ 2 → ¬ ((x.args.mode ≡ 1) ⊎ (x.args.mode ≡ 2))
      neither m n (inl e) = m e
      neither m n (inr e) = n e

  pub apart_is : Is (join_apart x) (Apart x)
  unfolding join_apart
  apart_is =
      and_is (kind_is (among (11 ∷ [])) _ refl x)
      (map_is some both
      (not_is (and_is (eq_is (node_of (handle_of x)) (node_of (other_of x))) (eq_is (handle_of x).local (other_of x).local))))
    where
      some : ¬ ((node_of (handle_of x) ≡ node_of (other_of x)) × ((handle_of x).local ≡ (other_of x).local))
          → (node_of (handle_of x) ≢ node_of (other_of x)) ⊎ ((handle_of x).local ≢ (other_of x).local)
      some n = go (ℕ_discrete (node_of (handle_of x)) (node_of (other_of x)))
        where
          go : Dec (node_of (handle_of x) ≡ node_of (other_of x))
              → (node_of (handle_of x) ≢ node_of (other_of x)) ⊎ ((handle_of x).local ≢ (other_of x).local)
          go (yes e) = inr (λ l. n (e, l))
          go (no e) = inl e

      both : (node_of (handle_of x) ≢ node_of (other_of x)) ⊎ ((handle_of x).local ≢ (other_of x).local)
          → ¬ ((node_of (handle_of x) ≡ node_of (other_of x)) × ((handle_of x).local ≡ (other_of x).local))
      both (inl d) e = d e.0
      both (inr d) e = d e.1

  pub elsewhere_is : Is (elsewhere x) (Elsewhere x)
  unfolding elsewhere
  elsewhere_is =
      then_is (kind_is (λ k. among (2 ∷ 3 ∷ 4 ∷ 10 ∷ []) k || is_look k) _ refl x) (λ n.
      same_is (ap (λ (v : ℕ). not (eqb x.args.current v)) (handle_node x (other_kind _ refl x n)))
      (not_is (eq_is x.args.current (node_of (handle_of x)))))

  pub twins_is : Is (twins x) (Twins x)
  unfolding twins
  twins_is = and_is (kind_is (among (1 ∷ [])) _ refl x) (password_is x.args.first x.args.second)

  -- ---- the rows of a selector

  pub gapped_row : Is (gapped_handle x) (Gapped x)
  unfolding gapped_handle
  gapped_row =
      presented_is x (λ h. gapped (width_of h) h.selector) GappedHandle (λ h. gapped_is (handle_of x) (four x.args.handle))
      (λ h. gapped_is (other_of x) (four x.args.other))

  pub not_primary_is : Is (not_primary x) (NotPrimary x)
  unfolding not_primary
  not_primary_is =
      alone_is x _ (kind_is (among (2 ∷ 3 ∷ 4 ∷ 9 ∷ 10 ∷ [])) _ refl x) refl refl
      (λ h. not (all_flat (width_of h) h.selector)) (λ n. other_is (handle_of x) (four x.args.handle))

  pub whole_row : Is (join_whole x) (Whole x)
  unfolding join_whole
  whole_row =
      then_is (kind_is (among (11 ∷ [])) _ refl x) (λ n.
      whole_is (width_of (handle_of x)) (handle_of x) (other_of x) (four x.args.handle) (four x.args.other))

  pub not_referenced_is : Is (not_referenced x) (NotReferenced x)
  unfolding not_referenced
  not_referenced_is =
      then_is (kind_is (among (5 ∷ 6 ∷ [])) _ refl x) (λ n.
      not_is (references_is (handle_of x) (four x.args.handle) x.args.segment))

  pub empty_row : Is (empty_handle x) (Empty x)
  unfolding empty_handle
  empty_row =
      then_is (kind_is (among (7 ∷ [])) _ refl x) (λ n.
      empty_is (handle_of x) (four x.args.handle) x.args.mask)

  pub spent_row : Is (spent_handle x) (Spent x)
  unfolding spent_handle
  spent_row =
      map_is (λ r. (r.0, r.1.0, r.1.1)) (λ r. (r.0, (r.1, r.2)))
      (then_is (kind_is (among (7 ∷ [])) _ refl x) (λ n.
      spent_is (handle_of x) (four x.args.handle) x.args.mask))

  -- ---- the rows of the store

  -- call 9 names one of the two modes, where row 3 does not apply
  renewal_mode : ¬ Field x → Named (new_password ∷ []) x → (x.args.mode ≡ 1) ⊎ (x.args.mode ≡ 2)
  renewal_mode c n =
      subst (λ (m : ℕ). (m ≡ 1) ⊎ (m ≡ 2)) (ap (λ (k : Kind). needed (call k x.args)) (only_kind new_password x n))
      (mode_known x (off_is bad_field_is c))

  module _ (s : Store) where
    pub unsound_is : (size : ℕ) → Is (unsound size x s) (Unsound size x s)
    unfolding unsound
    unsound_is size =
        and_is (but_is (λ k. not (among (7 ∷ []) k)) refl x)
        (not_is (record { out = (sound_in_words s size).0; into = (sound_in_words s size).1 }))

    pub in_use_is : Is (in_use x (table_at s)) (InUse x s)
    unfolding in_use
    in_use_is =
        then_is (kind_is (among (1 ∷ [])) _ refl x) (λ n.
        same_is (ap (λ (k : ℕ). (table_at s k).active) (own_record x n)) (holds_is _))

    pub inactive_is : Is (inactive_cluster x (table_at s)) (Inactive x s)
    unfolding inactive_cluster
    inactive_is =
        and_is (opens_is x)
        (presented_is x (λ h. not (table_at s (record_named h)).active) (λ h. (cluster_of h s).active ≡ false)
        (λ h. fails_is (cluster_of (handle_of x) s).active) (λ h. fails_is (cluster_of (other_of x) s).active))

    pub other_width_is : Is (other_width x (table_at s)) (OtherWidth x s)
    unfolding other_width
    other_width_is =
        and_is (opens_is x)
        (presented_is x (λ h. not (eqb (width_of h) (table_at s (record_named h)).width)) (λ h. (cluster_of h s).width ≢ width_of h)
        (λ h. width_is (handle_of x)) (λ h. width_is (other_of x)))
      where
        width_is : (h : Handle)
            → Is (not (eqb (width_of h) (table_at s (record_named h)).width)) ((cluster_of h s).width ≢ width_of h)
        width_is h =
            map_is (λ n e. n (sym e)) (λ n e. n (sym e)) (not_is (eq_is (width_of h) (cluster_of h s).width))

    pub old_password_is : ¬ Field x → Is (old_password x s) (OldPassword x s)
    unfolding old_password
    old_password_is c =
        then_is (kind_is (among (9 ∷ [])) _ refl x) (λ n.
        same_is
        (ap (λ (k : ℕ). same_password x.args.first (primary_of (cluster_at s k) x.args.mode))
        (handle_record x (other_kind _ refl x n)))
        (current_is x.args.mode (cluster_of (handle_of x) s) x.args.first (renewal_mode c n)))

    pub present_is : Is (segment_present x (table_at s)) (SegmentPresent x s)
    unfolding segment_present
    present_is =
        then_is (kind_is (among (3 ∷ [])) _ refl x) (λ n.
        same_is (ap (λ (p : Place). not (is_absent p)) (handle_place x s (other_kind _ refl x n))) (go (place x s)))
      where
        go : (p : Place) → Is (not (is_absent p)) ((base : ℕ) × (length : ℕ) × (p ≡ present_at base length))
        go None = record { out = λ e. absurd (false≢true e); into = λ r. ap (λ (p : Place). not (is_absent p)) r.2 }
        go (Some span) = record { out = λ e. (span.base, span.length, refl); into = λ r. refl }

    pub absent_is : Is (segment_absent x (table_at s)) (SegmentAbsent x s)
    unfolding segment_absent
    absent_is =
        then_is (kind_is (among (4 ∷ 5 ∷ 6 ∷ 10 ∷ [])) _ refl x) (λ n.
        same_is (ap is_absent (handle_place x s (other_kind _ refl x n))) (go (place x s)))
      where
        go : (p : Place) → Is (is_absent p) (p ≡ None)
        go None = record { out = λ e. refl; into = λ r. refl }
        go (Some span) = record { out = λ e. absurd (false≢true e); into = λ r. ap is_absent r }

    pub cluster_frozen_is : Is (cluster_frozen x (table_at s)) (ClusterFrozen x s)
    unfolding cluster_frozen none_frozen
    cluster_frozen_is =
        then_is (kind_is (among (2 ∷ [])) _ refl x) (λ n.
        same_is (ap (λ (k : ℕ). not (none_frozen (table_at s k))) (handle_record x (other_kind _ refl x n)))
        (some_is 16 (frozen_of (table_of (cluster_of (handle_of x) s)))))

    pub segment_frozen_is : Is (segment_frozen x (table_at s)) (SegmentFrozen x s)
    unfolding segment_frozen
    segment_frozen_is =
        then_is (kind_is (among (4 ∷ 6 ∷ [])) _ refl x) (λ n.
        same_is (ap (λ (k : ℕ). frozen_of (table_at s k) x.args.segment) (handle_record x (other_kind _ refl x n)))
        (holds_is _))

    pub short_is : Is (short x (table_at s)) (Short x s)
    unfolding short
    short_is =
        then_is (kind_is (λ k. among (5 ∷ 6 ∷ []) k && not (is_look k)) _ refl x) (λ n.
        same_is
        (λ j. ltb (length (its n j)) (length_of (handle_place x s (other_kind _ refl x n) j)))
        (go (length x.args.bytes) (place x s)))
      where
        its : Named (read ∷ write ∷ []) x → buffer x ≡ x.args.bytes
        its n =
            ap (λ (u : Bool). elim u [ true ↦ x.args.bytes | false ↦ [] ])
            ((kind_is (λ k. (uses k).bytes) (read ∷ write ∷ []) refl x).into n)

        go : (m : ℕ) (p : Place)
            → Is (ltb m (length_of p)) ((base : ℕ) × (n : ℕ) × (p ≡ present_at base n) × (m < n))
        go m p =
            record { out = λ e. there p (ltb-true m (length_of p) e); into = λ r. lt-ltb m (length_of p) (back r) }
          where
            there : (p : Place) → m < length_of p → (base : ℕ) × (n : ℕ) × (p ≡ present_at base n) × (m < n)
            there None l = absurd (omega arith)
            there (Some span) l = (span.base, span.length, refl, l)

            back : (base : ℕ) × (n : ℕ) × (p ≡ present_at base n) × (m < n) → m < length_of p
            back r = subst (λ (q : Place). m < length_of q) (sym r.2) r.3

    -- where the store is sound, the place exists and the size is good
    pub full_node_is : (size : ℕ) → ¬ Unsound size x s → ¬ NoSuchPlace x → ¬ Field x
        → Is (full_node x (table_at s)) (NoRoom x s)
    unfolding full_node
    full_node_is size a b c =
        then_is (kind_is (among (3 ∷ [])) _ refl x) (λ n.
        same_is
        (ap (λ (v : ℕ). eqb (placement (table_at s) v x.args.size).number 16) (handle_node x (other_kind _ refl x n)))
        (placed n))
      where
        whole : x.kind ≢ weaken → (b : Bool) → sound s size ≡ b → SoundInWords s size
        whole k true e = (sound_in_words s size).0 e
        whole k false e = absurd (a (k, λ w. false≢true (sym e ∙ (sound_in_words s size).1 w)))

        placed : Named (new_segment ∷ []) x
            → Is (eqb (placement (table_at s) (node_of (handle_of x)) x.args.size).number 16)
            ((base : ℕ) → ¬ Room s (node_of (handle_of x)) x.args.size base)
        placed n =
            let node : ¬ (3 < node_of (handle_of x)) = λ h. b (inl (inl (other_kind _ refl x n, inl h))) in
            let some : ¬ (x.args.size ≡ 0) = λ h. c (inr (inr (inl (n, inl h)))) in
            let w = whole (other_kind _ refl x n) (sound s size) refl in
            let p = placement_in_words s size w (node_of (handle_of x)) x.args.size (omega arith) (omega arith) in
            map_is p.nowhere.0 p.nowhere.1 (eq_is _ 16)
