-- How long the handles given are. The bytes of a handle are as many as its width has, once its password has sixteen; weakening,
-- reduction, joining and a new password keep the width; call 1 done has shown that the width asked for is one of the three.
-- Assumes nothing.
use mathlib.Core.Path.{◌≡◌, refl, sym, ap, ◌∙◌}
use mathlib.Core.Logic.{◌≢◌, ◌⊎◌, inl, inr}
use Prim.Native.Nat.{ℕ, zero, suc, ◌+◌, ◌*◌, ◌/◌, ◌≤◌, ◌<◌}
use native.Mathlib.Omega.{arith}
use mathlib.Core.Bool.{true, false, false≢true}
use mathlib.Core.List.{List}
use lib.Dec.{eqb}
use lib.ListN.{length, take, drop, length-drop}
use lib.Seq.{length-take-le}
use borrow.Author.Tests.{not-false}
use Rattle.bits.specs.Bytes.{bytes}
use Rattle.loops.specs.Tabulate.{tabulate}
use Rattle.handle.specs.declared.Handle.{Handle}
use Rattle.handle.specs.declared.Width.{Width}
use Rattle.handle.specs.declared.Width.TheVariants.{None, Four, Eight, Sixteen}
use Rattle.handle.specs.Widths.{bits_of, length_of, width_for, width_from, packed}
use Rattle.handle.specs.Handles.{Name, name_of, width_of, encoded_as, encoded, decoded_as, decoded, laid, bytes_in, joined}
use Rattle.handle.specs.Conversion.{SixteenBytes}
use Rattle.handle.specs.Opens.{primary_handle}
use Rattle.handle.proofs.CodecLaws.{listed, width_cases}
use Rattle.handle.proofs.TripLaws.{bytes_laid, length_decoded}
use Rattle.handle.proofs.HeldLaws.{width_decoded}
use Rattle.handle.proofs.HandleLaws.{weakened_cases, reduced_cases}
use Rattle.store.specs.declared.Cluster.{Cluster}
use Rattle.store.specs.Records.{started, cluster_at, primary_of}
use Rattle.store.specs.Sound.{is_width}
use Rattle.store.proofs.ChangeLaws.{put_same}
use Rattle.calls.specs.Calls.{Copy, Call, Kind, Arguments, call, new_cluster, delete_cluster, new_segment, delete_segment}
use Rattle.calls.specs.Calls.{read, write, weaken, reduce, new_password, freeze, join, validate, look, handle_of}
use Rattle.calls.specs.Calls.{making_cluster}
use Rattle.calls.specs.Numbers.{bad_width, number}
use Rattle.calls.specs.Steps.{Outcome, about, new_primary, weaker, reduced_from, joined_from, given, outcome, step, effects}
use Rattle.calls.specs.LengthWords.{giving, silent, nothing, MadeWide, AsLong, NoneGiven}
use Rattle.calls.proofs.TestLaws.{or_is, eq_is}
use Rattle.calls.proofs.KindLaws.{one, kind_is}
use Rattle.calls.proofs.CallLaws.{Presents}
use Rattle.calls.proofs.DoneLaws.{done_range, done_width, each_known}
use Rattle.calls.proofs.StepLaws.{step_done, step_number}

-- ---- the bytes of a handle

abbrev passing : Handle → List ℕ → Handle
passing h p = record { node = h.node; local = h.local; password = p; width = h.width; selector = h.selector }

spelled_length : (v : Width) (h : Handle) → length h.password ≡ 16 → length (encoded_as v h) ≡ length_of v
unfolding bytes packed tabulate
spelled_length None h e = refl
spelled_length Four h e = ap (λ (p : List ℕ). length (encoded_as Four (passing h p))) (listed 16 h.password e)
spelled_length Eight h e = ap (λ (p : List ℕ). length (encoded_as Eight (passing h p))) (listed 16 h.password e)
spelled_length Sixteen h e = ap (λ (p : List ℕ). length (encoded_as Sixteen (passing h p))) (listed 16 h.password e)

-- a handle of the width v whose password has sixteen bytes
pub record Long (v : Width) (h : Handle) : Type 0 where
  pub width : h.width ≡ v
  pub password : length h.password ≡ 16

long_length : (v : Width) (h : Handle) → Long v h → length (encoded h) ≡ length_of v
unfolding encoded
long_length v h o = spelled_length h.width h o.password ∙ ap length_of o.width

-- whatever the bytes, the password that they hold has sixteen
password_decoded : (b : List ℕ) → length (decoded b).password ≡ 16
unfolding decoded
password_decoded b =
    width_cases (λ v. length (decoded_as v b).password ≡ 16) (length b) refl part
  where
    taken : 19 ≤ length b → length (take 16 (drop 3 b)) ≡ 16
    taken l = length-take-le 16 (drop 3 b) (omega (arith, length-drop 3 b))

    part : (v : Width) → length b ≡ length_of v → length (decoded_as v b).password ≡ 16
    part None e = refl
    part Four e = taken (omega arith)
    part Eight e = taken (omega arith)
    part Sixteen e = taken (omega arith)

module _ (f : Name → List ℕ → ℕ → List ℕ) where
  -- ---- calls 7, 8, 9 and 11

  module _ (sixteen : SixteenBytes f) (g : Arguments) (c : Copy) where
    abbrev h : Kind → Handle
    h k = handle_of (call k g)

    own : Long (decoded g.handle).width (decoded g.handle)
    own = record { width = refl; password = password_decoded g.handle }

    long_weaker : Long (decoded g.handle).width (weaker f (call weaken g))
    long_weaker =
        weakened_cases (width_of (h weaken)) (f (name_of (h weaken))) (h weaken) g.mask
        (Long (decoded g.handle).width) (λ e. own)
        (λ e. record { width = refl; password = sixteen (name_of (h weaken)) _ _ })

    long_reduced : Long (decoded g.handle).width (reduced_from f (call reduce g) c)
    long_reduced =
        reduced_cases (width_of (h reduce)) (f (name_of (h reduce))) (h reduce) (primary_of (about (call reduce g) c) g.mode)
        (Long (decoded g.handle).width) (λ e. own)
        (λ e. record { width = refl; password = sixteen (name_of (h reduce)) _ _ })

    long_joined : Long (decoded g.handle).width (joined_from f (call join g) c)
    unfolding joined
    long_joined = record { width = refl; password = sixteen (name_of (h join)) _ _ }

    long_renewed : length g.first ≡ 16 → Long (decoded g.handle).width
        (primary_handle (h new_password).width (name_of (h new_password)) g.first)
    long_renewed e = record { width = refl; password = e }

    abbrev Done : Kind → Type 0
    Done k = number f (call k g) c.store (length c.memory) ≡ 0

    presented_length : (k : Kind) → Presents (call k g) (decoded g.handle) → Done k
        → length_of (decoded g.handle).width ≡ length g.handle
    presented_length k i e =
        sym (length_decoded g.handle
        (some (width_of (decoded g.handle))
        (each_known f (call k g) c.store (length c.memory) e (decoded g.handle) i)))
      where
        some : (w : ℕ) → eqb w 0 ≡ false → 0 < w
        some zero e = absurd (false≢true (sym e))
        some (suc w) e = omega arith

    long_given : (k : Kind) → one giving k ≡ true
        → (k ≡ new_password → length g.first ≡ 16) → Done k
        → (given f k (call k g) c).first.length ≡ length g.handle
    unfolding effects
    long_given new_cluster t p e = absurd (false≢true t)
    long_given delete_cluster t p e = absurd (false≢true t)
    long_given new_segment t p e = absurd (false≢true t)
    long_given delete_segment t p e = absurd (false≢true t)
    long_given read t p e = absurd (false≢true t)
    long_given write t p e = absurd (false≢true t)
    long_given weaken t p e = long_length _ (weaker f (call weaken g)) long_weaker ∙ presented_length weaken (inl refl) e
    long_given reduce t p e =
        long_length _ (reduced_from f (call reduce g) c) long_reduced ∙ presented_length reduce (inl refl) e
    long_given new_password t p e = long_length _ _ (long_renewed (p refl)) ∙ presented_length new_password (inl refl) e
    long_given freeze t p e = absurd (false≢true t)
    long_given join t p e = long_length _ (joined_from f (call join g) c) long_joined ∙ presented_length join (inl refl) e
    long_given validate t p e = absurd (false≢true t)
    long_given look t p e = absurd (false≢true t)

  pub as_long : SixteenBytes f → AsLong f
  as_long sixteen x n p c d =
      let e = step_number f x c d in
      ap (λ (o : Outcome). o.reply.first.length) (step_done f x c e)
      ∙ long_given sixteen x.args c x.kind ((kind_is (one giving) giving refl x).into n) p e

  -- ---- call 1

  module _ (v l w : ℕ) (p q : List ℕ) (c : Copy) (d : (step f (making_cluster v l w p q) c).reply.number ≡ 0) where
    abbrev x : Call
    x = making_cluster v l w p q

    e : number f x c.store (length c.memory) ≡ 0
    e = step_number f x c d

    known : (w ≡ 4) ⊎ (w ≡ 8) ⊎ (w ≡ 16)
    unfolding bad_width
    known =
        (or_is (eq_is w 4) (or_is (eq_is w 8) (eq_is w 16))).out
        (not-false (is_width w) (done_width f x c.store (length c.memory) e))

    abbrev primary : List ℕ → List ℕ
    primary r = new_primary x r

    primary_length : (r : List ℕ) → length r ≡ 16 → length (primary r) ≡ 19 + w / 2
    primary_length r sixteen = go known
      where
        of : ℕ → Handle
        of k = primary_handle (width_from k) (record { node = v; local = l }) r

        by : (k : ℕ) (u : Width) → w ≡ k → width_from k ≡ u → length_of u ≡ 19 + k / 2 → length (primary r) ≡ 19 + w / 2
        by k u a b z =
            ap (λ (n : ℕ). length (encoded (of n))) a ∙ long_length u (of k) (record { width = b; password = sixteen }) ∙ z
            ∙ ap (λ (n : ℕ). 19 + n / 2) (sym a)

        go : (w ≡ 4) ⊎ (w ≡ 8) ⊎ (w ≡ 16) → length (primary r) ≡ 19 + w / 2
        go (inl a) = by 4 Four a refl refl
        go (inr (inl a)) = by 8 Eight a refl refl
        go (inr (inr a)) = by 16 Sixteen a refl refl

    primary_wide : (r : List ℕ) → length r ≡ 16 → width_of (decoded (bytes_in (laid (primary r)))) ≡ w
    primary_wide r sixteen =
        ap (λ (b : List ℕ). width_of (decoded b)) (bytes_laid (primary r)) ∙ ap bits_of (width_decoded (primary r))
        ∙ ap (λ (n : ℕ). bits_of (width_for n)) (primary_length r sixteen)
        ∙ go known
      where
        by : (k : ℕ) → w ≡ k → bits_of (width_for (19 + k / 2)) ≡ k → bits_of (width_for (19 + w / 2)) ≡ w
        by k a z = ap (λ (n : ℕ). bits_of (width_for (19 + n / 2))) a ∙ z ∙ sym a

        go : (w ≡ 4) ⊎ (w ≡ 8) ⊎ (w ≡ 16) → bits_of (width_for (19 + w / 2)) ≡ w
        go (inl a) = by 4 a refl
        go (inr (inl a)) = by 8 a refl
        go (inr (inr a)) = by 16 a refl

    pub made_wide : length p ≡ 16 → length q ≡ 16 → length c.store.clusters ≡ 32 → MadeWide f v l w p q c
    unfolding effects
    made_wide hp hq room =
        let made = step_done f x c e in
        let range = done_range f x c.store (length c.memory) e in
        record {
          known = known;
          stored =
              ap (λ (o : Outcome). (cluster_at o.copy.store (v * 8 + l)).width) made
              ∙ ap (λ (k : Cluster). k.width)
              (put_same c.store (v * 8 + l) (started w p q) (omega (arith, room, range.node_low, range.local_low)));
          first = ap (λ (o : Outcome). o.reply.first.length) made ∙ primary_length p hp;
          second = ap (λ (o : Outcome). o.reply.second.length) made ∙ primary_length q hq;
          wide = (
            ap (λ (o : Outcome). width_of (decoded (bytes_in o.reply.first))) made ∙ primary_wide p hp,
            ap (λ (o : Outcome). width_of (decoded (bytes_in o.reply.second))) made ∙ primary_wide q hq,
          );
        }

  -- ---- where no handle is given

  module _ (g : Arguments) (c : Copy) where
    given_number : (k : Kind) → (given f k (call k g) c).number ≡ 0
    unfolding effects
    given_number new_cluster = refl
    given_number delete_cluster = refl
    given_number new_segment = refl
    given_number delete_segment = refl
    given_number read = refl
    given_number write = refl
    given_number weaken = refl
    given_number reduce = refl
    given_number new_password = refl
    given_number freeze = refl
    given_number join = refl
    given_number validate = refl
    given_number look = refl

    given_never : (k : Kind) → one silent k ≡ true → (given f k (call k g) c).first ≡ nothing
    unfolding effects
    given_never new_cluster t = absurd (false≢true t)
    given_never delete_cluster t = refl
    given_never new_segment t = refl
    given_never delete_segment t = refl
    given_never read t = refl
    given_never write t = refl
    given_never weaken t = absurd (false≢true t)
    given_never reduce t = absurd (false≢true t)
    given_never new_password t = absurd (false≢true t)
    given_never freeze t = refl
    given_never join t = absurd (false≢true t)
    given_never validate t = refl
    given_never look t = refl

    given_single : (k : Kind) → k ≢ new_cluster → (given f k (call k g) c).second ≡ nothing
    unfolding effects
    given_single new_cluster n = absurd (n refl)
    given_single delete_cluster n = refl
    given_single new_segment n = refl
    given_single delete_segment n = refl
    given_single read n = refl
    given_single write n = refl
    given_single weaken n = refl
    given_single reduce n = refl
    given_single new_password n = refl
    given_single freeze n = refl
    given_single join n = refl
    given_single validate n = refl
    given_single look n = refl

  pub none_given : (x : Call) (c : Copy) → NoneGiven f x c
  unfolding step
  none_given x c = record { refused = refused n; never = λ k. never n ((kind_is (one silent) silent refl x).into k); single = single n }
    where
      n : ℕ
      n = number f x c.store (length c.memory)

      refused : (n : ℕ) → (outcome f n x c).reply.number ≢ 0
          → ((outcome f n x c).reply.first ≡ nothing) × ((outcome f n x c).reply.second ≡ nothing)
      refused zero d = absurd (d (given_number x.args c x.kind))
      refused (suc n) d = (refl, refl)

      never : (n : ℕ) → one silent x.kind ≡ true → (outcome f n x c).reply.first ≡ nothing
      never zero t = given_never x.args c x.kind t
      never (suc n) t = refl

      single : (n : ℕ) → x.kind ≢ new_cluster → (outcome f n x c).reply.second ≡ nothing
      single zero d = given_single x.args c x.kind d
      single (suc n) d = refl
