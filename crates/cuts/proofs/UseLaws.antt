-- Each clause of the statements about cuts, put to use.
-- Assumes nothing.
use Prim.Native.Nat.{ℕ}
use mathlib.Core.Path.{◌≡◌, refl, ◌∙◌}
use mathlib.Core.Logic.{inl, inr}
use mathlib.Core.List.{List, [], ◌∷◌}
use lib.Bits.{bit_and}
use lib.ListN.{length}
use Rattle.bits.specs.Bytes.{Bytes}
use Rattle.loops.specs.Search.{least_from, least}
use Rattle.chain.specs.Way.{reached, numbered, met, way, records}
use Rattle.handle.specs.declared.Handle.{Handle}
use Rattle.handle.specs.Handles.{Name, width_of, decoded}
use Rattle.handle.specs.Conversion.{SixteenBytes}
use Rattle.calls.specs.Calls.{Copy, Call, weakening_by, reducing, validating}
use Rattle.calls.specs.JoinWords.{PrimaryFor}
use Rattle.calls.specs.Words.{Named, cluster_of}
use Rattle.calls.specs.Steps.{Reply, step}
use Rattle.register.specs.Registers.{given, made}
use Rattle.cuts.specs.Cuts.{Among, SameMasks, first_second, second_first, once, Shares, Valid, AnyCuts, TwoCuts}
use Rattle.cuts.specs.Words.{Both, AnyCutsInWords, TwoCutsInWords, on_copy, Start}
use Rattle.cuts.specs.Entries.{SameWays, KeepAlike, EntriesInWords}
use Rattle.cuts.specs.cases.Computed.{either, fourfold, twofold}
use Rattle.cuts.specs.cases.Uses.{CutsUsed, WaysUses, UsesAt, PairUses, EntriesUsed, CopyUsed}
use Rattle.cuts.proofs.CutLaws.{cuts_hold, and_shares}
use Rattle.cuts.proofs.WordLaws.{both_and, any_cuts_in_all, two_cuts_in_all, copy_stays}
use Rattle.cuts.proofs.EntryLaws.{same_ways_keep, reduced_alike, entries_alike}

-- ---- of one handle

pub cuts_used : CutsUsed
cuts_used w f p h e s g q =
    record {
      row_named = λ ms d. (any.opens ms d).named;
      row_wide = λ ms d. (any.opens ms d).wide;
      row_whole = λ ms d. (any.opens ms d).whole;
      row_ungapped = λ ms d. (any.opens ms d).ungapped;
      row_valid = λ ms d. (any.opens ms d).valid;
      row_refers = λ ms i d l. (any.opens ms d).refers i l;
      row_of_three = λ x y z i d e k l. (any.opens (x ∷ y ∷ z ∷ []) (d, (e, (k, tt)))).refers i l;
      row_alike = λ ms ns d e same. any.alike ms ns d e same;
      reordered = λ ms ns d e same. any.reordered ms ns d e same;
      named = λ a b d e. ((two a b).opens first_second (d, (e, tt))).named;
      wide = λ a b d e. ((two a b).opens second_first (d, (e, tt))).wide;
      whole = λ a b d e. ((two a b).opens first_second (d, (e, tt))).whole;
      ungapped = λ a b d e. ((two a b).opens first_second (d, (e, tt))).ungapped;
      valid = λ a b s sh d. ((sharing a b s sh).opens once (d, tt)).valid;
      refers = λ a b i d e l. ((two a b).opens second_first (d, (e, tt))).refers i l;
      orders = λ a b d e j k. (two a b).alike first_second second_first (d, (e, tt)) (j, (k, tt));
      once = λ a b s sh d e k. (sharing a b s sh).alike first_second once (d, (e, tt)) (k, tt);
      single = λ a b s sh d e. ((sharing a b s sh).single first_second (d, (e, tt))).0;
      single_other = λ a b s sh d e. ((sharing a b s sh).single second_first (d, (e, tt))).0;
      all = λ a b i z t l r ha hb. let d = (two a b).all z t i l r ha hb second_first in (d.0, d.1.0);
    }
  where
    o : Valid w f p h
    o = record { named = refl; wide = e; whole = s; ungapped = g; valid = q; refers = λ i l. refl }

    any : AnyCuts w f p h
    any = (cuts_hold w f p h o).0

    sharing : (a b s : ℕ) → Shares w a b s → TwoCuts w f p h a b s
    sharing a b s sh = (cuts_hold w f p h o).1 a b s sh

    two : (a b : ℕ) → TwoCuts w f p h a b (bit_and a b)
    two a b = sharing a b (bit_and a b) (and_shares w a b)

-- ---- of calls

pub ways_uses : (answer : Call → Reply) (n m : ℕ) (h : List ℕ) → length h ≡ n → AnyCutsInWords answer m h
    → ((a b t : ℕ) → Both (width_of (decoded h)) a b t → TwoCutsInWords answer m h a b t) → WaysUses answer n m h
ways_uses answer n m h l any two =
    record {
      named = λ a b d e. ((anded a b).each first_second (d, (e, tt))).name;
      long = λ a b d e. ((anded a b).each second_first (d, (e, tt))).long ∙ l;
      valid_double = λ a b d e. ((anded a b).each first_second (d, (e, tt))).validates;
      valid_single = λ a b t both d. ((two a b t both).each once (d, tt)).validates;
      reduces = λ a b d e. ((anded a b).each second_first (d, (e, tt))).reduces;
      reduces_single = λ a b t both d. ((two a b t both).each once (d, tt)).reduces;
      of_old = λ a b i d e q r. ((((anded a b).each first_second (d, (e, tt))).references i q).0 r).0;
      of_first = λ a b i d e q r. ((((anded a b).each first_second (d, (e, tt))).references i q).0 r).1.0;
      of_second = λ a b t i both d q r. ((((two a b t both).each once (d, tt)).references i q).0 r).1.1;
      by_all = λ a b i d e q r ha hb. (((anded a b).each second_first (d, (e, tt))).references i q).1 (r, (ha, hb));
      orders = λ a b d e j k. (anded a b).alike first_second second_first (d, (e, tt)) (j, (k, tt));
      once = λ a b t both d e k. (two a b t both).alike first_second once (d, (e, tt)) (k, tt);
      once_anded = λ a b d e k. (anded a b).alike second_first once (d, (e, tt)) (k, tt);
      single = λ a b t both d e. ((two a b t both).single first_second (d, (e, tt))).0;
      single_other = λ a b t both d e. ((two a b t both).single second_first (d, (e, tt))).0;
      all = λ a b i t q r ha hb. let d = (anded a b).all t i q r ha hb second_first in (d.0, d.1.0);
      row_named = λ ms d. (any.each ms d).name;
      row_long = λ ms d. (any.each ms d).long ∙ l;
      row_valid = λ ms d. (any.each ms d).validates;
      row_reduces = λ ms d. (any.each ms d).reduces;
      row_refers = λ ms i d q. (any.each ms d).references i q;
      row_of_three = λ a b x i d e k q r.
          let t = (((any.each (a ∷ b ∷ x ∷ []) (d, (e, (k, tt)))).references i q).0 r).1 in (t.0, t.1.0, t.1.1.0);
      row_alike = λ ms ns d e same. any.alike ms ns d e same;
    }
  where
    anded : (a b : ℕ) → TwoCutsInWords answer m h a b (bit_and a b)
    anded a b = two a b (bit_and a b) (both_and (width_of (decoded h)) a b)

module _ (f : Name → List ℕ → ℕ → List ℕ) (sixteen : SixteenBytes f) where
  -- what each use starts from
  start : (n m : ℕ) (h : List ℕ) (c : Copy) → Bytes n h
      → ((p : List ℕ) → PrimaryFor m (cluster_of (decoded h) c.store) p → length p ≡ 16)
      → (step f (validating m h) c).reply.number ≡ 0 → Start f m h c
  start n m h c o s v = record { bytes = o.below; sixteen = s; valid = v }

  module _ (n m : ℕ) where
    pub uses_at : UsesAt f n m
    uses_at h c o s v = ways_uses (on_copy f c) n m h o.long (any_cuts_in_all f sixteen m h c (start n m h c o s v)) two
      where
        two : (a b t : ℕ) → Both (width_of (decoded h)) a b t → TwoCutsInWords (on_copy f c) m h a b t
        two a b t both = two_cuts_in_all f sixteen m h c (start n m h c o s v) a b t both

  -- ---- of registers

  pair_uses : (e : List ℕ) (k : ℕ) (e' : List ℕ) (k' : ℕ) → ((h : Handle) → KeepAlike h e k e' k') → PairUses f e k e' k'
  pair_uses e k e' k' same =
      record {
        refers = λ w n p r h o g g' d d'. (reduced_alike f w n p r h o e e' k k' g g' d d' (same h)).0;
        reduced = λ w n p r h o g g' d d'. (reduced_alike f w n p r h o e e' k k' g g' d d' (same h)).1;
        validates = λ m h c o s v g g' d d'. (alike m h c o s v g g' d d').validates;
        reduces = λ m h c o s v g g' d d'. (alike m h c o s v g g' d d').reduces;
        references = λ m h c o s v g g' d d'. (alike m h c o s v g g' d d').references;
        alike = λ m h c o s v g g' d d'. (alike m h c o s v g g' d d').alike;
      }
    where
      alike : (m : ℕ) (h : List ℕ) (c : Copy) (o : Bytes 23 h)
          → ((p : List ℕ) → PrimaryFor m (cluster_of (decoded h) c.store) p → length p ≡ 16)
          → (step f (validating m h) c).reply.number ≡ 0
          → (g g' : Handle) → made f (decoded h) e k ≡ given g → made f (decoded h) e' k' ≡ given g'
          → EntriesInWords (on_copy f c) m g g'
      alike m h c o s v g g' d d' =
          entries_alike f sixteen m h c o.long (start 23 m h c o s v) e e' k k' g g' d d' (same (decoded h))

-- ---- the ways of the registers

swapped : (x y : ℕ) → SameMasks (y ∷ x ∷ []) (x ∷ y ∷ [])
swapped x y n = (to x y, to y x)
  where
    to : (x y : ℕ) → Among n (y ∷ x ∷ []) → Among n (x ∷ y ∷ [])
    to x y (inl e) = inr (inl e)
    to x y (inr (inl e)) = inl e
    to x y (inr (inr e)) = absurd e

pub orders : (x y : ℕ) → SameWays (either x y) 2 (either y x) 2
unfolding reached numbered met way records least least_from
orders x y = swapped x y

pub one_register : (x y : ℕ) → SameWays (fourfold x y) 2 (fourfold x y) 4
unfolding reached numbered met way records least least_from
one_register x y = swapped x y

pub more_often : (x : ℕ) → SameWays (twofold x) 1 (twofold x) 2
unfolding reached numbered met way records least least_from
more_often x n = (λ t. inr t, from)
  where
    from : Among n (x ∷ x ∷ []) → Among n (x ∷ [])
    from (inl e) = inl e
    from (inr t) = t

-- by two masks, and once by what they share
pub shares_keep : (x y : ℕ) (h : Handle) → KeepAlike h (either x y) 2 (0 ∷ bit_and x y ∷ []) 1
unfolding reached numbered met way records least least_from
shares_keep x y h i l r =
    let b = both_and (width_of h) x y i l in
    (λ t. (b.1 (t.1.0, t.0), tt), λ t. let d = b.0 t.0 in (d.1, (d.0, tt)))

pub entry_uses : EntriesUsed
entry_uses f sixteen =
    record {
      same_masks = λ e e' k k' w. by_ways e k e' k' w;
      orders = λ x y. by_ways (either x y) 2 (either y x) 2 (orders x y);
      one_register = λ x y. by_ways (fourfold x y) 2 (fourfold x y) 4 (one_register x y);
      again = λ x. by_ways (twofold x) 1 (twofold x) 2 (more_often x);
      shared = λ x y. pair_uses f sixteen (either x y) 2 (0 ∷ bit_and x y ∷ []) 1 (shares_keep x y);
    }
  where
    by_ways : (e : List ℕ) (k : ℕ) (e' : List ℕ) (k' : ℕ) → SameWays e k e' k' → PairUses f e k e' k'
    by_ways e k e' k' w = pair_uses f sixteen e k e' k' (λ h. same_ways_keep h e e' k k' w)

-- ---- of the copy

pub copy_uses : CopyUsed
unfolding Named
copy_uses f m h c =
    record {
      weakens = copy_stays f (weakening_by m h) c (inl refl);
      reduces = copy_stays f (reducing m h) c (inr (inl refl));
      validates = copy_stays f (validating m h) c (inr (inr (inl refl)));
    }
