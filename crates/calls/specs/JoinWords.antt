-- Document 02, §5, "Join two handles", in words. `joining m a b` is call 11 in the mode m with the handles a and b, as it is
-- called; validation is asked for by itself. Handles are of any width, conversions give sixteen bytes.
--     JoinNeeds            it is done just where both handles validate in the mode, they name one cluster, and some segment
--                          is referenced by neither
--     JoinWhole            where both validate and name one cluster, it gets 23 if every segment is referenced by the one or
--                          the other, so if one of the two is primary; with a primary handle it is never done
--     Together, Covering   the handles name one cluster; every segment is referenced by the one or the other
--     Primary              all four subselectors are flat
--     given, made          the bytes that a join on a copy gives, and the handle that they hold
--     PrimaryFor m c p     p is the primary password of the record c for the mode m
--     JoinedInWords f m a b c    of a join done:
--       copy                 it leaves the copy as it was
--       reply, long          and gives one handle, as long as the first, and nothing else
--       node, local          the handle given names the cluster of both
--       union                its subselector 0 has just the bits of the segments that either references
--       flat                 its others are flat, as after a reduction
--       other                and it is never primary
--       references           so it references exactly the segments that either references
--       password             its password is subselector 0 by the conversion on the mode's primary password
--       validates            it validates in the mode
--     JoinInWords          so it is of every join that is done
--     JoinSwapped          either way round the two give the same number, the same bytes and the same copy, on every copy
--     JoinItself           a handle that is not primary, joined with itself, gets what its reduction gets, number and bytes
--     JoinWithin           and so does a join that is done, where the second handle references no more than the first
-- Assumes nothing.
use Rattle.std.specs.Prelude.{◌≡◌, ◌≢◌, ◌⊎◌, ◌↔◌, ℕ, ◌<◌, List, [], length, get_or}
use Rattle.handle.specs.declared.Handle.{Handle}
use Rattle.handle.specs.Handles.{Name, name_of, node_of, width_of, decoded, bytes_in}
use Rattle.handle.specs.Words.{Bit, subselector, References}
use Rattle.store.specs.declared.Cluster.{Cluster}
use Rattle.store.specs.declared.Store.{Store}
use Rattle.calls.specs.Calls.{Copy, Call, joining, reducing, validating}
use Rattle.calls.specs.Numbers.{number}
use Rattle.calls.specs.Words.{Flat, cluster_of}
use Rattle.calls.specs.Steps.{step}
use Rattle.calls.specs.Literals.{none, told}

abbrev pub Together : Handle → Handle → Type 0
Together h k = (node_of h ≡ node_of k) × (h.local ≡ k.local)

abbrev pub Covering : Handle → Handle → Type 0
Covering h k = (i : ℕ) → i < width_of h → References h i ⊎ References k i

abbrev pub Primary : Handle → Type 0
Primary h = (k : ℕ) → k < 4 → Flat h k

abbrev pub PrimaryFor : ℕ → Cluster → List ℕ → Type 0
PrimaryFor m c p = ((m ≡ 1) × (p ≡ c.read)) ⊎ ((m ≡ 2) × (p ≡ c.write))

module _ (f : Name → List ℕ → ℕ → List ℕ) where
  module _ (m : ℕ) (a b : List ℕ) where
    -- ---- the numbers

    module _ (s : Store) (size : ℕ) where
      abbrev BothValid : Type 0
      BothValid = (number f (validating m a) s size ≡ 0) × (number f (validating m b) s size ≡ 0)

      abbrev pub JoinNeeds : Type 0
      JoinNeeds =
          (number f (joining m a b) s size ≡ 0)
          ↔ (BothValid × Together (decoded a) (decoded b) × ¬ Covering (decoded a) (decoded b))

      pub record JoinWhole : Type 0 where
        pub covered : BothValid → Together (decoded a) (decoded b) → Covering (decoded a) (decoded b)
            → number f (joining m a b) s size ≡ 23
        pub primary : BothValid → Together (decoded a) (decoded b) → Primary (decoded a) ⊎ Primary (decoded b)
            → number f (joining m a b) s size ≡ 23
        pub never : Primary (decoded a) ⊎ Primary (decoded b) → number f (joining m a b) s size ≢ 0

    -- ---- a join done

    module _ (c : Copy) where
      abbrev x : Call
      x = joining m a b

      abbrev h : Handle
      h = decoded a

      abbrev k : Handle
      k = decoded b

      abbrev pub given : List ℕ
      given = bytes_in (step f x c).reply.first

      abbrev pub made : Handle
      made = decoded given

      pub record JoinedInWords : Type 0 where
        pub copy : (step f x c).copy ≡ c
        pub reply : (step f x c).reply ≡ told 0 given none 0 0 []
        pub long : length given ≡ length a
        pub node : (node_of made ≡ node_of h) × (node_of made ≡ node_of k)
        pub local : (made.local ≡ h.local) × (made.local ≡ k.local)
        pub union : (i : ℕ) → i < width_of h → Bit i (subselector made 0) ↔ (References h i ⊎ References k i)
        pub flat : (j : ℕ) → 0 < j → j < 4 → Flat made j
        pub other : ¬ Flat made 0
        pub references : (i : ℕ) → i < width_of h → References made i ↔ (References h i ⊎ References k i)
        pub password : (p : List ℕ) → PrimaryFor m (cluster_of h c.store) p
            → made.password ≡ f (name_of h) p (subselector made 0)
        pub validates : number f (validating m given) c.store (length c.memory) ≡ 0

  abbrev pub JoinInWords : Type 0
  JoinInWords =
      (m : ℕ) (a b : List ℕ) → ((i : ℕ) → get_or a i 0 < 256) → (c : Copy)
      → (step f (joining m a b) c).reply.number ≡ 0 → JoinedInWords m a b c

  -- ---- one call and another

  abbrev pub JoinSwapped : Type 0
  JoinSwapped = (m : ℕ) (a b : List ℕ) (c : Copy) → step f (joining m a b) c ≡ step f (joining m b a) c

  abbrev pub JoinItself : Type 0
  JoinItself =
      (m : ℕ) (a : List ℕ) → ((i : ℕ) → get_or a i 0 < 256) → ¬ Primary (decoded a) → (c : Copy)
      → step f (joining m a a) c ≡ step f (reducing m a) c

  abbrev pub JoinWithin : Type 0
  JoinWithin =
      (m : ℕ) (a b : List ℕ) → ((i : ℕ) → get_or a i 0 < 256)
      → ((i : ℕ) → i < width_of (decoded a) → References (decoded b) i → References (decoded a) i) → (c : Copy)
      → (step f (joining m a b) c).reply.number ≡ 0 → step f (joining m a b) c ≡ step f (reducing m a) c
