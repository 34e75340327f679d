-- The primary handles of calls 1 and 9 byte by byte. A handle's bytes are a short list of known numbers with the password
-- between, so that each byte is found by where it stands; the record left is found where it was put.
-- Assumes nothing.
use mathlib.Core.Path.{◌≡◌, refl, sym, ap, ◌∙◌, subst}
use mathlib.Core.Logic.{◌⊎◌, inl, inr}
use Prim.Native.Nat.{ℕ, zero, suc, ◌+◌, ◌*◌, ◌-◌, ◌/◌, ◌%◌, ◌≤◌, ◌<◌}
use native.Mathlib.Omega.{arith}
use mathlib.Core.Bool.{false, false≢true}
use mathlib.Core.List.{List, [], ◌∷◌, ◌++◌}
use lib.Dec.{eqb}
use lib.ListN.{length, get_or, replicate, length-append, length-replicate, get_or-replicate, get_or-append}
use lib.Seq.{get_or-append-add}
use borrow.Author.Tests.{not-false}
use Rattle.bits.specs.Bytes.{bytes}
use Rattle.loops.specs.Tabulate.{tabulate}
use Rattle.handle.specs.declared.Handle.{Handle}
use Rattle.handle.specs.declared.HandleBytes.{HandleBytes}
use Rattle.handle.specs.declared.Width.{Width}
use Rattle.handle.specs.declared.Width.TheVariants.{None, Four, Eight, Sixteen}
use Rattle.handle.specs.Widths.{bits_of, length_of, width_from, packed}
use Rattle.handle.specs.Handles.{Name, name_of, node_of, width_of, encoded, decoded, laid}
use Rattle.handle.specs.Opens.{primary_handle}
use Rattle.handle.proofs.CodecLaws.{elements, listed}
use Rattle.handle.proofs.TripLaws.{length_decoded}
use Rattle.store.specs.declared.Cluster.{Cluster}
use Rattle.store.specs.Records.{absent_segment, table_of, segment_of, started, cluster_at}
use Rattle.store.specs.declared.Segment.{Segment}
use Rattle.store.specs.Records.{place_of, frozen_of, with_password}
use Rattle.store.specs.Sound.{is_width}
use Rattle.store.proofs.ChangeLaws.{put_same}
use Rattle.calls.specs.Calls.{Copy, Call, new_cluster, new_password, making_cluster, renewing, record_for}
use Rattle.calls.specs.Numbers.{bad_width, number}
use Rattle.calls.specs.Words.{Begun, cluster_of}
use Rattle.calls.specs.Steps.{Outcome, about, new_primary, left, given, step, effects}
use Rattle.calls.proofs.TestLaws.{or_is, eq_is}
use Rattle.calls.proofs.CallLaws.{InRange}
use Rattle.calls.proofs.DoneLaws.{done_range, done_width, done_active, each_known}
use Rattle.calls.proofs.HandleWords.{handle_in_words}
use Rattle.calls.proofs.MadeWordLaws.{active_in}
use Rattle.calls.proofs.StepLaws.{step_done, step_number}
use Rattle.calls.specs.PrimaryWords.{PrimaryInBytes, MadeInBytes, RenewedInBytes}

-- ---- the bytes of a primary handle

-- the bytes after the password: the selector and zeros, eight in all
abbrev tail : Width → List ℕ
tail v = replicate (bits_of v / 2) 255 ++ replicate (8 - bits_of v / 2) 0

-- zeros, and past their end
nothing : (n k : ℕ) → get_or {A = ℕ} (replicate n 0) k 0 ≡ 0
nothing zero k = refl
nothing (suc n) zero = refl
nothing (suc n) (suc k) = nothing n k

-- the bytes of a handle of the width v, whose first two are a and b
abbrev row : Width → ℕ → ℕ → ℕ → List ℕ → HandleBytes
row v a b l p = record { length = 19 + bits_of v / 2; bytes = a ∷ b ∷ l ∷ (p ++ tail v) }

module _ (n l : ℕ) (low : n < 4) where
  abbrev handle : Width → List ℕ → Handle
  handle v p = primary_handle v (record { node = n; local = l }) p

  high_zero : n / 256 % 256 ≡ 0
  high_zero = omega (arith, low)

  low_same : n % 256 ≡ n
  low_same = omega (arith, low)

  spelled_elements : (v : Width) → 0 < bits_of v → (p : List ℕ)
      → laid (encoded (handle v (elements 16 p))) ≡ row v 0 n l (elements 16 p)
  unfolding encoded packed bytes tabulate
  spelled_elements None some p = absurd (omega arith)
  spelled_elements Four some p = λ j. row Four (high_zero j) (low_same j) l (elements 16 p)
  spelled_elements Eight some p = λ j. row Eight (high_zero j) (low_same j) l (elements 16 p)
  spelled_elements Sixteen some p = λ j. row Sixteen (high_zero j) (low_same j) l (elements 16 p)

  spelled : (v : Width) → 0 < bits_of v → (p : List ℕ) → length p ≡ 16
      → laid (encoded (handle v p)) ≡ row v 0 n l p
  spelled v some p e =
      subst (λ (q : List ℕ). laid (encoded (handle v q)) ≡ row v 0 n l q) (sym (listed 16 p e))
      (spelled_elements v some p)

  half_width : (v : Width) → bits_of v / 2 ≤ 8
  half_width None = omega arith
  half_width Four = omega arith
  half_width Eight = omega arith
  half_width Sixteen = omega arith

  -- a byte after the password
  after : (v : Width) (p : List ℕ) → length p ≡ 16 → (k : ℕ)
      → get_or (row v 0 n l p).bytes (19 + k) 0 ≡ get_or (tail v) k 0
  after v p e k =
      ap (λ (i : ℕ). get_or (row v 0 n l p).bytes i 0) there ∙ get_or-append-add (0 ∷ n ∷ l ∷ p) (tail v) k 0
    where
      there : 19 + k ≡ length (0 ∷ n ∷ l ∷ p) + k
      there = omega (arith, e)

  tail_length : (v : Width) → length (tail v) ≡ 8
  tail_length None = refl
  tail_length Four = refl
  tail_length Eight = refl
  tail_length Sixteen = refl

  row_bytes : (v : Width) (p : List ℕ) → length p ≡ 16 → PrimaryInBytes n l (bits_of v) p (row v 0 n l p)
  row_bytes v p e =
      record {
        told = refl;
        high = refl;
        low = refl;
        local = refl;
        password = λ k h.
            get_or-append-add (0 ∷ n ∷ l ∷ []) (p ++ tail v) k 0 ∙ get_or-append p (tail v) 0 k (omega (arith, e, h));
        flat = λ k h.
            after v p e k
            ∙ get_or-append flats zeros 0 k (rw (length-replicate {A = ℕ} (bits_of v / 2) 255) h)
            ∙ get_or-replicate (bits_of v / 2) k 255 0 h;
        rest = λ k h.
            ap (λ (i : ℕ). get_or (row v 0 n l p).bytes i 0) (past k h) ∙ after v p e (k - 19)
            ∙ ap (λ (i : ℕ). get_or (tail v) i 0) (at k h)
            ∙ get_or-append-add flats zeros (k - 19 - bits_of v / 2) 0
            ∙ zero_there (k - 19 - bits_of v / 2);
        whole = omega (arith, length-append p (tail v), e, tail_length v);
      }
    where
      flats : List ℕ
      flats = replicate (bits_of v / 2) 255

      zeros : List ℕ
      zeros = replicate (8 - bits_of v / 2) 0

      past : (k : ℕ) → 19 + bits_of v / 2 ≤ k → k ≡ 19 + (k - 19)
      past k h = omega (arith, h)

      at : (k : ℕ) → 19 + bits_of v / 2 ≤ k → k - 19 ≡ length flats + (k - 19 - bits_of v / 2)
      at k h = let e = length-replicate {A = ℕ} (bits_of v / 2) 255 in omega (arith, e, h)

      zero_there : (k : ℕ) → get_or zeros k 0 ≡ 0
      zero_there k = nothing (8 - bits_of v / 2) k

  pub primary_bytes_lem : (v : Width) → 0 < bits_of v → (w : ℕ) → bits_of v ≡ w → (p : List ℕ) → length p ≡ 16
      → PrimaryInBytes n l w p (laid (encoded (handle v p)))
  primary_bytes_lem v some w t p e =
      subst (λ (k : ℕ). PrimaryInBytes n l k p (laid (encoded (handle v p)))) t
      (subst (PrimaryInBytes n l (bits_of v) p) (sym (spelled v some p e)) (row_bytes v p e))

-- ---- the calls

module _ (f : Name → List ℕ → ℕ → List ℕ) where
  module _ (v l w : ℕ) (p q : List ℕ) (c : Copy) (d : (step f (making_cluster v l w p q) c).reply.number ≡ 0) where
    abbrev x : Call
    x = making_cluster v l w p q

    e : number f x c.store (length c.memory) ≡ 0
    e = step_number f x c d

    range : InRange v l
    range = done_range f x c.store (length c.memory) e

    some_width : (0 < bits_of (width_from w)) × (bits_of (width_from w) ≡ w)
    unfolding bad_width
    some_width =
        go
        ((or_is (eq_is w 4) (or_is (eq_is w 8) (eq_is w 16))).out
        (not-false (is_width w) (done_width f x c.store (length c.memory) e)))
      where
        by : (k : ℕ) → w ≡ k → (0 < bits_of (width_from k)) × (bits_of (width_from k) ≡ k)
            → (0 < bits_of (width_from w)) × (bits_of (width_from w) ≡ w)
        by k a t = subst (λ (n : ℕ). (0 < bits_of (width_from n)) × (bits_of (width_from n) ≡ n)) (sym a) t

        go : (w ≡ 4) ⊎ (w ≡ 8) ⊎ (w ≡ 16) → (0 < bits_of (width_from w)) × (bits_of (width_from w) ≡ w)
        go (inl a) = by 4 a (omega arith, refl)
        go (inr (inl a)) = by 8 a (omega arith, refl)
        go (inr (inr a)) = by 16 a (omega arith, refl)

    pub made_in_bytes : length p ≡ 16 → length q ≡ 16 → length c.store.clusters ≡ 32 → MadeInBytes f v l w p q c
    unfolding effects
    made_in_bytes hp hq room =
        record {
          reader = handle p hp (λ o. o.reply.first) refl;
          writer = handle q hq (λ o. o.reply.second) refl;
          active = of (λ k. k.active);
          width = of (λ k. k.width);
          reading = λ k h. of (λ z. get_or z.read k 0);
          writing = λ k h. of (λ z. get_or z.write k 0);
          absent = λ i h. of (λ z. place_of (table_of z) i) ∙ ap (λ (s : Segment). s.place) (none i h);
          unfrozen = λ i h. of (λ z. frozen_of (table_of z) i) ∙ ap (λ (s : Segment). s.frozen) (none i h);
          memory = ap (λ (o : Outcome). o.copy.memory) made;
        }
      where
        made : step f x c ≡ record { copy = left new_cluster x c; reply = given f new_cluster x c }
        made = step_done f x c e

        handle : (r : List ℕ) → length r ≡ 16 → (t : Outcome → HandleBytes)
            → t (record { copy = left new_cluster x c; reply = given f new_cluster x c }) ≡ laid (new_primary x r)
            → PrimaryInBytes v l w r (t (step f x c))
        handle r long t same =
            subst (PrimaryInBytes v l w r) (sym (ap t made ∙ same))
            (primary_bytes_lem v l range.node_low (width_from w) some_width.0 w some_width.1 r long)

        here : cluster_at (step f x c).copy.store (v * 8 + l) ≡ started w p q
        here =
            ap (λ (o : Outcome). cluster_at o.copy.store (v * 8 + l)) made
            ∙ put_same c.store (v * 8 + l) (started w p q) (omega (arith, room, range.node_low, range.local_low))

        of : {A : Type 0} (t : Cluster → A) → t (cluster_at (step f x c).copy.store (v * 8 + l)) ≡ t (started w p q)
        of t = ap t here

        none : (i : ℕ) → i < 16 → segment_of (table_of (started w p q)) i ≡ absent_segment
        none i h = get_or-replicate 16 i absent_segment absent_segment h

  module _ (m : ℕ) (a p : List ℕ) (c : Copy) (d : (step f (renewing m a p) c).reply.number ≡ 0) where
    abbrev y : Call
    y = renewing m a p

    t : number f y c.store (length c.memory) ≡ 0
    t = step_number f y c d

    some : 0 < width_of (decoded a)
    some = go (width_of (decoded a)) (each_known f y c.store (length c.memory) t (decoded a) (inl refl))
      where
        go : (n : ℕ) → eqb n 0 ≡ false → 0 < n
        go zero q = absurd (false≢true (sym q))
        go (suc n) q = omega arith

    long : length a ≡ length_of (decoded a).width
    long = length_decoded a some

    begun : Begun a
    begun = go (decoded a).width some long
      where
        go : (u : Width) → 0 < bits_of u → length a ≡ length_of u → Begun a
        go None s q = absurd (omega arith)
        go Four s q = ((handle_in_words a).of21 q).0
        go Eight s q = ((handle_in_words a).of23 q).0
        go Sixteen s q = ((handle_in_words a).of27 q).0

    there : InRange (node_of (decoded a)) (decoded a).local
    there = done_range f y c.store (length c.memory) t

    node_is : node_of (decoded a) ≡ get_or a 1 0
    node_is = omega (arith, begun.node, there.node_low)

    abbrev renewal : Cluster
    renewal = with_password (about y c) m p

    renewed : step f y c ≡ record { copy = left new_password y c; reply = given f new_password y c }
    renewed = step_done f y c t

    found : cluster_of (decoded a) (step f y c).copy.store ≡ renewal
    unfolding effects
    found =
        ap (λ (o : Outcome). cluster_of (decoded a) o.copy.store) renewed
        ∙ put_same c.store (record_for y) renewal
        (active_in c.store (record_for y) (done_active f y c.store (length c.memory) t refl))

    pub renewed_in_bytes : length p ≡ 16 → RenewedInBytes f m a p c
    unfolding effects
    renewed_in_bytes hp =
        record {
          long = long ∙ half (decoded a).width some;
          handle =
              subst (PrimaryInBytes (get_or a 1 0) (get_or a 2 0) (width_of (decoded a)) p)
              (ap (λ (o : Outcome). o.reply.first) (sym renewed))
              (subst (λ (n : ℕ). PrimaryInBytes n (get_or a 2 0) (width_of (decoded a)) p given_bytes) node_is
              (subst (λ (n : ℕ). PrimaryInBytes (node_of (decoded a)) n (width_of (decoded a)) p given_bytes) begun.local
              (primary_bytes_lem (node_of (decoded a)) (decoded a).local there.node_low (decoded a).width some _ refl p hp)));
          reading = λ q. (
            λ k i. ap (λ (z : Cluster). get_or z.read k 0) (found ∙ by 1 q),
            ap (λ (z : Cluster). z.write) (found ∙ by 1 q),
          );
          writing = λ q. (
            λ k i. ap (λ (z : Cluster). get_or z.write k 0) (found ∙ by 2 q),
            ap (λ (z : Cluster). z.read) (found ∙ by 2 q),
          );
          table = ap table_of found;
          memory = ap (λ (o : Outcome). o.copy.memory) renewed;
        }
      where
        given_bytes : HandleBytes
        given_bytes = laid (encoded (primary_handle (decoded a).width (name_of (decoded a)) p))

        half : (u : Width) → 0 < bits_of u → length_of u ≡ 19 + bits_of u / 2
        half None s = absurd (omega arith)
        half Four s = refl
        half Eight s = refl
        half Sixteen s = refl

        by : (k : ℕ) → m ≡ k → renewal ≡ with_password (about y c) k p
        by k q = ap (λ (n : ℕ). with_password (about y c) n p) q
