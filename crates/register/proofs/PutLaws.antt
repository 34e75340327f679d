-- Laws of what is put into a buffer: one text after another, one byte; and of the loops that list numbers and lay bytes.
-- Assumes nothing.
use mathlib.Core.Path.{◌≡◌, refl, sym, ap, ◌∙◌, subst}
use mathlib.Core.Bool.{Bool, true, false}
use mathlib.Core.List.{List, [], ◌∷◌, ◌++◌, append_assoc, append-nil}
use Rattle.std.specs.Prelude.{Option, None}
use Prim.Native.Nat.{ℕ, ◌+◌, ◌*◌, ◌≤◌, ◌<◌}
use native.Mathlib.Numerals.{add-one}
use native.Mathlib.Omega.{arith}
use lib.ListN.{length, get_or, set, take, drop, length-append, length-set, take-append-drop}
use lib.Seq.{take-suc, take-suc-set, drop-drop, drop-set-lt, length-take-le}
use Rattle.handle.specs.declared.Handle.{Handle}
use Rattle.handle.specs.declared.HandleBytes.{HandleBytes}
use Rattle.handle.specs.Handles.{written}
use Rattle.register.specs.declared.Seen.{Seen}
use Rattle.register.specs.Registers.{one_if}
use Rattle.register.specs.inner.Work.{segment_in, Put, PutHandle, openers_in, laid_in, blank, Fitting, Room}

pub put_none : (m : List ℕ) (at : ℕ) → Put m m at []
put_none m at =
    record {
      size = refl;
      start = ap (λ (n : ℕ). take n m) (plus_none at) ∙ sym (append-nil (take at m));
      rest = refl;
    }
  where
    plus_none : (at : ℕ) → at + 0 ≡ at
    plus_none at = omega arith

pub put_then : (m m₁ m₂ : List ℕ) (at r : ℕ) (xs ys : List ℕ) → r ≡ at + length xs → Put m m₁ at xs → Put m₁ m₂ r ys
    → Put m m₂ at (xs ++ ys)
put_then m m₁ m₂ at r xs ys e p q =
    record {
      size = q.size ∙ p.size;
      start =
          ap (λ (n : ℕ). take n m₂) to_end ∙ q.start
          ∙ ap (λ (l : List ℕ). l ++ ys) (ap (λ (n : ℕ). take n m₁) e ∙ p.start)
          ∙ append_assoc (take at m) xs ys;
      rest =
          ap (λ (n : ℕ). drop n m₂) to_end ∙ q.rest
          ∙ ap (λ (n : ℕ). drop n m₁) turned
          ∙ sym (drop-drop (length ys) (at + length xs) m₁)
          ∙ ap (drop (length ys)) p.rest
          ∙ drop-drop (length ys) (at + length xs) m
          ∙ ap (λ (n : ℕ). drop n m) (sym turned ∙ sym to_end);
    }
  where
    to_end : at + length (xs ++ ys) ≡ r + length ys
    to_end = let l = length-append xs ys in omega arith

    turned : r + length ys ≡ at + length xs + length ys
    turned = omega arith

pub put_one : (m : List ℕ) (at v : ℕ) → at < length m → Put m (set m at v) at (v ∷ [])
put_one m at v h =
    record {
      size = length-set m at v;
      start = ap (λ (n : ℕ). take n (set m at v)) (add-one at) ∙ take-suc-set m at v h;
      rest = drop-set-lt (at + 1) m at v (omega arith);
    }

-- what is put at the start: the text, and then the buffer as before
pub put_start : (m m' text : List ℕ) → Put m m' 0 text → m' ≡ text ++ drop (length text) m
put_start m m' text p =
    sym (take-append-drop (length text) m')
    ∙ ap (λ (l : List ℕ). l ++ drop (length text) m') (first (length text) p.start)
    ∙ ap (λ (l : List ℕ). text ++ l) (second (length text) p.rest)
  where
    first : (n : ℕ) → take (0 + n) m' ≡ text → take n m' ≡ text
    first n q = ap (λ (k : ℕ). take k m') (let z : n ≡ 0 + n = omega arith in z) ∙ q

    second : (n : ℕ) → drop (0 + n) m' ≡ drop (0 + n) m → drop n m' ≡ drop n m
    second n q =
        ap (λ (k : ℕ). drop k m') (let z : n ≡ 0 + n = omega arith in z) ∙ q
        ∙ ap (λ (k : ℕ). drop k m) (let z : 0 + n ≡ n = omega arith in z)

-- ---- the loop that lists numbers

openers_more : (es : List (Option Seen)) (s n : ℕ) (b : Bool) → segment_in s (get_or es (n + 1) None) ≡ b
    → openers_in es s (n + 1) ≡ openers_in es s n ++ one_if b (n + 1)
unfolding openers_in
openers_more es s n b q =
    ap (openers_in es s) (add-one n)
    ∙ ap (λ (k : ℕ). openers_in es s n ++ one_if (segment_in s (get_or es k None)) k) (sym (add-one n))
    ∙ ap (λ (b : Bool). openers_in es s n ++ one_if b (n + 1)) q

openers_none : (es : List (Option Seen)) (s : ℕ) → openers_in es s 0 ≡ []
unfolding openers_in
openers_none es s = refl

pub record Listing (es : List (Option Seen)) (n s : ℕ) (m m' : List ℕ) (count k : ℕ) : Type 0 where
  pub few : n ≤ 255
  pub room : n ≤ length m
  pub low : k ≤ n
  pub size : length m' ≡ length m
  pub least : count ≤ k
  pub told : count ≡ length (openers_in es s k)
  pub so_far : Put m m' 0 (openers_in es s k)

pub listing_none : (es : List (Option Seen)) (n s : ℕ) (m : List ℕ) → n ≤ 255 → n ≤ length m → Listing es n s m m 0 0
listing_none es n s m a b =
    record {
      few = a;
      room = b;
      low = omega arith;
      size = refl;
      least = omega arith;
      told = sym (ap length (openers_none es s));
      so_far = subst (Put m m 0) (sym (openers_none es s)) (put_none m 0);
    }

module _ (es : List (Option Seen)) (n s : ℕ) (m m' : List ℕ) (count k : ℕ) (l : Listing es n s m m' count k) where
  pub listing_inside : k < n → count < length m'
  listing_inside h = let a = l.room in let b = l.size in let c = l.least in omega arith

  module _ (h : k < n) (b : Bool) (q : b ≡ segment_in s (get_or es (k + 1) None)) where
    pub listing_opens : b ≡ true → Listing es n s m (set m' count (k + 1)) (count + 1) (k + 1)
    listing_opens t =
        let more : openers_in es s (k + 1) ≡ openers_in es s k ++ ((k + 1) ∷ []) = openers_more es s k true (sym q ∙ t) in
        record {
          few = l.few;
          room = l.room;
          low = omega arith;
          size = length-set m' count (k + 1) ∙ l.size;
          least = let c = l.least in omega arith;
          told =
              let c = l.told in
              let u = length-append (openers_in es s k) ((k + 1) ∷ []) in
              let v = ap length more in
              omega arith;
          so_far =
              subst (Put m (set m' count (k + 1)) 0) (sym more)
              (put_then m m' (set m' count (k + 1)) 0 count (openers_in es s k) ((k + 1) ∷ [])
              (let c = l.told in omega arith) l.so_far
              (put_one m' count (k + 1) (listing_inside h)));
        }

    pub listing_opens_as : b ≡ true → (m'' : List ℕ) (count'' : ℕ) → m'' ≡ set m' count (k + 1) → count'' ≡ count + 1
        → Listing es n s m m'' count'' (k + 1)
    listing_opens_as t m'' count'' u v =
        subst (λ (x : List ℕ). Listing es n s m x count'' (k + 1)) (sym u)
        (subst (λ (x : ℕ). Listing es n s m (set m' count (k + 1)) x (k + 1)) (sym v) (listing_opens t))

    pub listing_not : b ≡ false → Listing es n s m m' count (k + 1)
    listing_not t =
        let more : openers_in es s (k + 1) ≡ openers_in es s k = openers_more es s k false (sym q ∙ t) ∙ append-nil (openers_in es s k) in
        record {
          few = l.few;
          room = l.room;
          low = omega arith;
          size = l.size;
          least = let c = l.least in omega arith;
          told = l.told ∙ sym (ap length more);
          so_far = subst (Put m m' 0) (sym more) l.so_far;
        }

  pub listing_not_as : k < n → (b : Bool) → b ≡ segment_in s (get_or es (k + 1) None) → b ≡ false
      → (m'' : List ℕ) (count'' : ℕ) → m'' ≡ m' → count'' ≡ count → Listing es n s m m'' count'' (k + 1)
  listing_not_as h b q t m'' count'' u v =
      subst (λ (x : List ℕ). Listing es n s m x count'' (k + 1)) (sym u)
      (subst (λ (x : ℕ). Listing es n s m m' x (k + 1)) (sym v) (listing_not h b q t))

  module _ (h : n ≤ k) where
    all : k ≡ n
    all = let c = l.low in omega arith

    pub listed_count : count ≡ length (openers_in es s n)
    listed_count = l.told ∙ ap (λ (k : ℕ). length (openers_in es s k)) all

    pub listed_put : Put m m' 0 (openers_in es s n)
    listed_put = subst (λ (k : ℕ). Put m m' 0 (openers_in es s k)) all l.so_far

-- ---- the loop that puts a handle's bytes

pub record Putting (m m' : List ℕ) (at : ℕ) (bytes : List ℕ) (i : ℕ) : Type 0 where
  pub fitting : Fitting at (length m)
  pub long : length bytes ≡ 27
  pub low : i ≤ 23
  pub size : length m' ≡ length m
  pub so_far : Put m m' at (take i bytes)

pub putting_none : (m : List ℕ) (at : ℕ) (bytes : List ℕ) → Fitting at (length m) → length bytes ≡ 27
    → Putting m m at bytes 0
putting_none m at bytes f e =
    record { fitting = f; long = e; low = omega arith; size = refl; so_far = put_none m at }

module _ (m m' : List ℕ) (at : ℕ) (bytes : List ℕ) (i : ℕ) (p : Putting m m' at bytes i) where
  pub putting_inside : i < 23 → at + i < length m'
  putting_inside h = let a = p.size in let b = p.fitting.ends in omega arith

  pub putting_more : i < 23 → Putting m (set m' (at + i) (get_or bytes i 0)) at bytes (i + 1)
  putting_more h =
      record {
        fitting = p.fitting;
        long = p.long;
        low = omega arith;
        size = length-set m' (at + i) (get_or bytes i 0) ∙ p.size;
        so_far =
            subst (Put m (set m' (at + i) (get_or bytes i 0)) at)
            (sym (ap (λ (n : ℕ). take n bytes) (add-one i) ∙ take-suc bytes i 0 (let e = p.long in omega arith)))
            (put_then m m' (set m' (at + i) (get_or bytes i 0)) at (at + i) (take i bytes) (get_or bytes i 0 ∷ [])
            (let e = length-take-le i bytes (let e = p.long in omega arith) in omega arith) p.so_far
            (put_one m' (at + i) (get_or bytes i 0) (putting_inside h)));
      }

  pub put_all : 23 ≤ i → PutHandle m m' at bytes
  put_all h =
      let e : i ≡ 23 = let l = p.low in omega arith in
      record {
        put = subst (λ (n : ℕ). Put m m' at (take n bytes)) e p.so_far;
        long = length-take-le 23 bytes (let l = p.long in omega arith);
      }

pub put_written : (m m' : List ℕ) (at : ℕ) (h : Handle) (b : HandleBytes) → b ≡ written h → PutHandle m m' at b.bytes
    → PutHandle m m' at (written h).bytes
put_written m m' at h b q p = subst (λ (b : HandleBytes). PutHandle m m' at b.bytes) q p

-- ---- the loop that lays handles

laid_more : (hs : List Handle) (k : ℕ) → laid_in hs (k + 1) ≡ laid_in hs k ++ take 23 (written (get_or hs (k + 1) blank)).bytes
unfolding laid_in
laid_more hs k =
    ap (laid_in hs) (add-one k)
    ∙ ap (λ (i : ℕ). laid_in hs k ++ take 23 (written (get_or hs i blank)).bytes) (sym (add-one k))

laid_none : (hs : List Handle) → laid_in hs 0 ≡ []
unfolding laid_in
laid_none hs = refl

pub record Laying (hs : List Handle) (n : ℕ) (m m' : List ℕ) (k : ℕ) : Type 0 where
  pub room : Room n (length m)
  pub low : k ≤ n
  pub size : length m' ≡ length m
  pub long : length (laid_in hs k) ≡ k * 23
  pub so_far : Put m m' 0 (laid_in hs k)

pub laying_none : (hs : List Handle) (n : ℕ) (m : List ℕ) → Room n (length m) → Laying hs n m m 0
laying_none hs n m r =
    record {
      room = r;
      low = omega arith;
      size = refl;
      long = ap length (laid_none hs);
      so_far = subst (Put m m 0) (sym (laid_none hs)) (put_none m 0);
    }

module _ (hs : List Handle) (n : ℕ) (m m' : List ℕ) (k : ℕ) (l : Laying hs n m m' k) where
  module _ (h : k < n) where
    pub laying_fits : Fitting (k * 23) (length m')
    laying_fits =
        let a = l.size in
        let b = l.room.ends in
        let c = l.room.few in
        record { ends = omega arith; low = omega arith }

    pub laying_more : (m'' : List ℕ) → PutHandle m' m'' (k * 23) (written (get_or hs (k + 1) blank)).bytes
        → Laying hs n m m'' (k + 1)
    laying_more m'' p =
        let u = length-append (laid_in hs k) (take 23 (written (get_or hs (k + 1) blank)).bytes) in
        let v = p.long in
        let t = l.long in
        record {
          room = l.room;
          low = omega arith;
          size = p.put.size ∙ l.size;
          long = ap length (laid_more hs k) ∙ u ∙ (let z : length (laid_in hs k) + length (take 23 (written (get_or hs (k + 1) blank)).bytes) ≡ (k + 1) * 23 = omega arith in z);
          so_far =
              subst (Put m m'' 0) (sym (laid_more hs k))
              (put_then m m' m'' 0 (k * 23) (laid_in hs k) (take 23 (written (get_or hs (k + 1) blank)).bytes) (omega arith)
              l.so_far p.put);
        }

  pub laid_all : n ≤ k → Put m m' 0 (laid_in hs n)
  laid_all h =
      let e : k ≡ n = let c = l.low in omega arith in
      subst (λ (k : ℕ). Put m m' 0 (laid_in hs k)) e l.so_far
