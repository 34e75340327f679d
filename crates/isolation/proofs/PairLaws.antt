-- Two copies and one call, and then a list. What a call gives is decided by the tables, by the bytes of the segment that it reads
-- and by the password of the mode that it names; so where these are the same, and the call gets one number, the replies are. What
-- holds of two copies before a call and after it holds after a list, and the list gets the same replies.
-- Assumes nothing.
use mathlib.Core.Path.{◌≡◌, refl, sym, ap, ap₂, ◌∙◌}
use Prim.Native.Nat.{ℕ, zero, suc, ◌+◌, ◌-◌, ◌≤◌, ◌<◌}
use native.Mathlib.Omega.{arith}
use native.Mathlib.Decide.{ℕ_discrete, dec_lt}
use mathlib.Core.Bool.{true}
use mathlib.Core.List.{List, [], ◌∷◌, ◌++◌}
use lib.ListN.{length, get_or, take, drop}
use Rattle.handle.specs.Handles.{Name, name_of, width_of, encoded, reduced, joined}
use Rattle.store.specs.declared.Cluster.{Cluster}
use Rattle.store.specs.declared.Store.{Store}
use Rattle.store.specs.Records.{Tables, cluster_at, put_record, length_of, primary_of}
use Rattle.store.proofs.ChangeLaws.{put_other, put_same, put_out}
use Rattle.calls.specs.Looks.{Looked}
use Rattle.calls.specs.Calls.{Copy, Call, call, Arguments, Kind, new_cluster, delete_cluster, new_segment, delete_segment}
use Rattle.calls.specs.Calls.{read, write, weaken, reduce, new_password, freeze, join, validate, look, is_look, among, opens, uses}
use Rattle.calls.specs.Calls.{handle_of, other_of, buffer, node_for, place_for, start_for, part_for}
use Rattle.calls.specs.Looks.{looked_by, looked}
use Rattle.calls.specs.Numbers.{number}
use Rattle.calls.specs.Steps.{Reply, no_bytes, plain, handles, read_reply, look_reply, within, about, left, segment_read, segment_shown}
use Rattle.calls.specs.Steps.{overwritten, given, outcome, step, run}
use Rattle.isolation.specs.Copies.{SoundCopy, Done, InPlace, Along, also, places}
use Rattle.calls.proofs.MemoryLaws.{length_overwritten, overwritten_both, part_same}
use Rattle.calls.proofs.DoneLaws.{done_range}
use Rattle.calls.proofs.KindLaws.{kind_then}
use Rattle.isolation.proofs.AddressLaws.{in_place}
use Rattle.isolation.proofs.KeptLaws.{tables, segment_fits, low_segment}

-- what is the same of a record, and of the records put in its place, is the same of what is found there
pub put_both : {A : Type 0} (g : Cluster → A) (a b : Store) → length a.clusters ≡ length b.clusters → (n m : ℕ)
    (d e : Cluster) → g (cluster_at a m) ≡ g (cluster_at b m) → (m ≡ n → g d ≡ g e)
    → g (cluster_at (put_record a n d) m) ≡ g (cluster_at (put_record b n e) m)
put_both g a b same n m d e old new = go (ℕ_discrete m n) (dec_lt n (length a.clusters))
  where
    go : Dec (m ≡ n) → Dec (n < length a.clusters) → g (cluster_at (put_record a n d) m) ≡ g (cluster_at (put_record b n e) m)
    go (no q) h = ap g (put_other a n d m q) ∙ old ∙ sym (ap g (put_other b n e m q))
    go (yes q) (yes h) =
        ap (λ (k : ℕ). g (cluster_at (put_record a n d) k)) q
        ∙ ap g (put_same a n d h)
        ∙ new q
        ∙ sym (ap g (put_same b n e (omega (arith, same))))
        ∙ ap (λ (k : ℕ). g (cluster_at (put_record b n e) k)) (sym q)
    go (yes q) (no h) =
        ap (λ (s : Store). g (cluster_at s m)) (put_out a n d (omega arith))
        ∙ old
        ∙ ap (λ (s : Store). g (cluster_at s m)) (sym (put_out b n e (omega (arith, same))))

-- bytes put at one place of two memories of one length
module _ (m n : List ℕ) (size : length m ≡ length n) (k : ℕ) (bs : List ℕ) (fit : k + length bs ≤ length m) where
  fits : k + length bs ≤ length n
  fits = omega (arith, size)

  pub length_both : length (overwritten m k bs) ≡ length (overwritten n k bs)
  length_both = length_overwritten m k bs fit ∙ size ∙ sym (length_overwritten n k bs fits)

  pub bytes_both : (p : ℕ) → ((k ≤ p → p < k + length bs → ⊥) → get_or m p 0 ≡ get_or n p 0)
      → get_or (overwritten m k bs) p 0 ≡ get_or (overwritten n k bs) p 0
  bytes_both = overwritten_both m n k bs fit fits

-- a call that reads a segment opens a cluster, as one that names a mode does
pub reads_segment : (k : Kind) → among (5 ∷ []) k ≡ true → (uses k).segment ≡ true
reads_segment = kind_then (among (5 ∷ [])) (λ k. (uses k).segment) refl

pub reading_opens : (k : Kind) → among (5 ∷ []) k ≡ true → opens k ≡ true
reading_opens = kind_then (among (5 ∷ [])) opens refl

pub moded_opens : (k : Kind) → (uses k).mode ≡ true → opens k ≡ true
moded_opens = kind_then (λ k. (uses k).mode) opens refl

-- ---- what a call done gives

module _ (f : Name → List ℕ → ℕ → List ℕ) (g : Arguments) (a b : Copy) (k : SoundCopy a) (same : tables a ≡ tables b)
    (size : length a.memory ≡ length b.memory) where
  abbrev SamePart : Kind → Type 0
  SamePart kind =
      (p : ℕ) → InPlace (node_for (call kind g)) (place_for (call kind g) (tables a)) p
      → get_or a.memory p 0 ≡ get_or b.memory p 0

  abbrev SamePassword : Kind → Type 0
  SamePassword kind = primary_of (about (call kind g) a) g.mode ≡ primary_of (about (call kind g) b) g.mode

  module _ (kind : Kind) (u : (uses kind).segment ≡ true) (e : Done f (call kind g) a) (bytes : SamePart kind) where
    abbrev begins : ℕ
    begins = start_for (call kind g) (tables a)

    abbrev long : ℕ
    long = length_of (place_for (call kind g) (tables a))

    same_part : take long (drop begins a.memory) ≡ take long (drop begins b.memory)
    same_part =
        let x : Call = call kind g in
        part_same a.memory b.memory begins long
        (segment_fits f g a k x (done_range f x a.store (length a.memory) e) (low_segment f g a k kind u e)) size
        (λ p lo hi. bytes p (in_place (node_for x) (place_for x (tables a)) p lo hi))

  same_read : Done f (call read g) a → SamePart read → segment_read (call read g) a ≡ segment_read (call read g) b
  unfolding segment_read
  same_read e bytes =
      let x : Call = call read g in
      let size : Tables → ℕ = λ ts. length_of (place_for x ts) in
      ap (λ (bs : List ℕ). read_reply (size (tables a)) (bs ++ drop (size (tables a)) g.bytes))
      (same_part read refl e bytes)
      ∙ ap
      (λ (ts : Tables).
      read_reply (size ts) (take (size ts) (drop (start_for x ts) b.memory) ++ drop (size ts) g.bytes))
      same

  same_look : Done f (call look g) a → SamePart look → segment_shown (call look g) a ≡ segment_shown (call look g) b
  unfolding segment_shown
  same_look e bytes =
      let x : Call = call look g in
      let n : begins look refl e bytes + long look refl e bytes - begins look refl e bytes ≡ long look refl e bytes =
      omega arith in
      ap (λ (k : ℕ). look_reply 0 (take k (drop (start_for x (tables a)) a.memory))) n
      ∙ ap (look_reply 0) (same_part look refl e bytes)
      ∙ ap (λ (k : ℕ). look_reply 0 (take k (drop (start_for x (tables a)) b.memory))) (sym n)
      ∙ ap (λ (ts : Tables). look_reply 0 (within (part_for x ts) b.memory)) same

  pub same_given : (kind : Kind) → Done f (call kind g) a → (among (5 ∷ []) kind ≡ true → SamePart kind)
      → ((uses kind).mode ≡ true → SamePassword kind) → given f kind (call kind g) a ≡ given f kind (call kind g) b
  unfolding given
  same_given new_cluster e bytes password = refl
  same_given delete_cluster e bytes password = refl
  same_given new_segment e bytes password = refl
  same_given delete_segment e bytes password = refl
  same_given read e bytes password = same_read e (bytes refl)
  same_given write e bytes password = refl
  same_given weaken e bytes password = refl
  same_given reduce e bytes password =
      let x : Call = call reduce g in
      ap
      (λ (p : List ℕ).
      handles (encoded (reduced (width_of (handle_of x)) (f (name_of (handle_of x))) (handle_of x) p)) no_bytes 0)
      (password refl)
  same_given new_password e bytes password = refl
  same_given freeze e bytes password = refl
  same_given join e bytes password =
      let x : Call = call join g in
      ap
      (λ (p : List ℕ).
      handles (encoded (joined (width_of (handle_of x)) (f (name_of (handle_of x))) (handle_of x) (other_of x) p)) no_bytes 0)
      (password refl)
  same_given validate e bytes password = refl
  same_given look e bytes password = same_look e (bytes refl)

module _ (f : Name → List ℕ → ℕ → List ℕ) where
  -- ---- a call that gets one number in both

  module _ (x : Call) (a b : Copy)
      (numbers : number f x a.store (length a.memory) ≡ number f x b.store (length b.memory)) where
    pub same_looked : tables a ≡ tables b
        → looked f x a.store (length a.memory) ≡ looked f x b.store (length b.memory)
    unfolding looked
    same_looked same = λ j. looked_by (numbers j) x (same j)

    -- refused, it changes nothing; done, it gives and leaves what it does
    pub same_step : (i : Copy → Copy → Type 0) → i a b
        → (Done f x a → (given f x.kind x a ≡ given f x.kind x b) × i (left x.kind x a) (left x.kind x b))
        → ((step f x a).reply ≡ (step f x b).reply) × i (step f x a).copy (step f x b).copy
    unfolding step
    same_step i same done =
        go (number f x a.store (length a.memory)) (number f x b.store (length b.memory)) refl numbers
      where
        go : (n m : ℕ) → number f x a.store (length a.memory) ≡ n → n ≡ m
            → ((outcome f n x a).reply ≡ (outcome f m x b).reply) × i (outcome f n x a).copy (outcome f m x b).copy
        go zero zero e q = done e
        go zero (suc m) e q = absurd (omega arith)
        go (suc n) zero e q = absurd (omega arith)
        go (suc n) (suc m) e q = (ap (λ k. plain k (buffer x)) q, same)

  -- ---- a list of calls, of each of which t holds on the copies that it gets

  -- one call: the replies and what a look tells are the same, and i holds again
  pub record Stepped (i : Copy → Copy → Type 0) (x : Call) (a b : Copy) : Type 0 where
    pub reply : (step f x a).reply ≡ (step f x b).reply
    pub told : looked f x a.store (length a.memory) ≡ looked f x b.store (length b.memory)
    pub kept : i (step f x a).copy (step f x b).copy

  module _ (i : Copy → Copy → Type 0) (t : Call → Store → Type 0)
      (one : (x : Call) (a b : Copy) → i a b → t x a.store → t x b.store → Stepped i x a b) where
    pub kept_run : (xs : List Call) (a b : Copy) → i a b → Along (step f) t xs a → Along (step f) t xs b
        → i (run f xs a).copy (run f xs b).copy
    kept_run [] a b v ta tb = v
    kept_run (x ∷ xs) a b v ta tb = kept_run xs _ _ (one x a b v ta.0 tb.0).kept ta.1 tb.1

    pub replies_run : (xs : List Call) (a b : Copy) → i a b → Along (step f) t xs a → Along (step f) t xs b
        → (run f xs a).replies ≡ (run f xs b).replies
    replies_run [] a b v ta tb = refl
    replies_run (x ∷ xs) a b v ta tb =
        let s = one x a b v ta.0 tb.0 in
        ap₂ {C = List Reply} (λ r rs. r ∷ rs) s.reply (replies_run xs _ _ s.kept ta.1 tb.1)

    pub places_run : (xs : List Call) (a b : Copy) → i a b → Along (step f) t xs a → Along (step f) t xs b
        → places f xs a ≡ places f xs b
    places_run [] a b v ta tb = refl
    places_run (x ∷ xs) a b v ta tb =
        let s = one x a b v ta.0 tb.0 in
        ap₂ {C = List Looked} (λ l ls. also (is_look x.kind) l ls) s.told (places_run xs _ _ s.kept ta.1 tb.1)
