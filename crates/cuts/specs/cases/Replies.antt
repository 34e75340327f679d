-- Document 02, §10: the three ways written out in calls and whole replies, at each width and in each mode, whatever the conversion f of
-- sixteen bytes and whatever the two passwords of sixteen bytes. The copies are those of the uses of isolation: the cluster is local
-- number 7 of node 3. Before reduction the handles of the three ways differ in their selectors and in what their passwords are
-- made by; their reductions are equal byte by byte.
--     by q s             the bytes of a handle of that cluster: the password q, and the bytes s of the selector
--     g                  f for the cluster's name
--     Written, written   at each width: the masks; the parameters and the selectors that cuts of a primary handle give; how
--                        many segments are left. Masks of widths 4 and 8 have bits above them
--     three v m p        the calls in the mode m, with the primary password p, and their replies
--     ThreeTold          they get these replies, in either mode
--     last p             a handle of 23 bytes with one flat subselector left; it references 3 to 7
--     spent m p          the same of that handle: the single cut is done, and either double cut is refused with 17 at its second call;
--                        where the second excludes nothing more it is done with no subselector flat, and not the other way round
--     SpentTold          they get these replies, in either mode
--     Told c xs          on the copy c the calls of xs get their replies
--     given v p x        the bytes that the way x gives
--     does, giving       a call and its reply; a reply with a number, a handle and a count
--     RepliesTold        all these replies are got, by every conversion that gives sixteen bytes and with any passwords of sixteen
--     WayMet, WaysMetWith f    the theorem's hypotheses are met by the primary handle of each width in each mode, all three ways are
--                        done, and give these bytes
--     WaysMet            so it is by every conversion that gives sixteen bytes
--     EntriesMet         and the hypotheses of the theorem about entries: by the primary handle of 23 bytes, and two registers that have
--                        the two masks in either order, whose second entries have these bytes
-- Assumes nothing.
use Rattle.std.specs.Prelude.{◌≡◌, ℕ, List, [], ◌∷◌, ◌++◌, map, length}
use Rattle.bits.specs.Bytes.{Bytes}
use Rattle.handle.specs.Handles.{Name, width_of, decoded}
use Rattle.handle.specs.Conversion.{SixteenBytes}
use Rattle.register.specs.Registers.{made}
use Rattle.register.specs.Registers as Registers
use Rattle.calls.specs.Calls.{Copy, Call, weakening_by, reducing, validating}
use Rattle.calls.specs.Steps.{Reply}
use Rattle.calls.specs.Literals.{none, told}
use Rattle.calls.specs.WidthReplies.{Answered}
use Rattle.isolation.specs.UseLists.{Wide, of_four, of_eight, of_sixteen, keeping}
use Rattle.cuts.specs.Cuts.{Way, first_second, second_first, once, masks}
use Rattle.cuts.specs.Words.{Both, cut, Done, on_copy, Start}
use Rattle.cuts.specs.Entries.{SameWays}
use Rattle.cuts.specs.cases.Computed.{either}

abbrev pub by : List ℕ → List ℕ → List ℕ
by q s = 0 ∷ 3 ∷ 7 ∷ (q ++ s)

pub record Written : Type 0 where
  pub first : ℕ
  pub second : ℕ
  pub shared : ℕ
  pub by_first : ℕ
  pub then_second : ℕ
  pub by_second : ℕ
  pub then_first : ℕ
  pub by_shared : ℕ
  pub whole : List ℕ
  pub one : List ℕ
  pub one_two : List ℕ
  pub two : List ℕ
  pub two_one : List ℕ
  pub both : List ℕ
  pub after_first : ℕ
  pub after_second : ℕ
  pub after_both : ℕ

abbrev pub written : Wide → Written
written of_four =
    record {
      first = 0x56;
      second = 0xac;
      shared = 0xa104;
      by_first = 0x6;
      then_second = 0xd;
      by_second = 0xc;
      then_first = 0x7;
      by_shared = 0x4;
      whole = 0xff ∷ 0xff ∷ [];
      one = 0xf6 ∷ 0xff ∷ [];
      one_two = 0xd6 ∷ 0xff ∷ [];
      two = 0xfc ∷ 0xff ∷ [];
      two_one = 0x7c ∷ 0xff ∷ [];
      both = 0xf4 ∷ 0xff ∷ [];
      after_first = 2;
      after_second = 2;
      after_both = 1;
    }
written of_eight =
    record {
      first = 0x75;
      second = 0xdc;
      shared = 0xa554;
      by_first = 0x75;
      then_second = 0xde;
      by_second = 0xdc;
      then_first = 0x77;
      by_shared = 0x54;
      whole = 0xff ∷ 0xff ∷ 0xff ∷ 0xff ∷ [];
      one = 0x75 ∷ 0xff ∷ 0xff ∷ 0xff ∷ [];
      one_two = 0x75 ∷ 0xde ∷ 0xff ∷ 0xff ∷ [];
      two = 0xdc ∷ 0xff ∷ 0xff ∷ 0xff ∷ [];
      two_one = 0xdc ∷ 0x77 ∷ 0xff ∷ 0xff ∷ [];
      both = 0x54 ∷ 0xff ∷ 0xff ∷ 0xff ∷ [];
      after_first = 5;
      after_second = 5;
      after_both = 3;
    }
written of_sixteen =
    record {
      first = 0x7531;
      second = 0xdb9c;
      shared = 0x5110;
      by_first = 0x7531;
      then_second = 0xdbde;
      by_second = 0xdb9c;
      then_first = 0x7573;
      by_shared = 0x5110;
      whole = 0xff ∷ 0xff ∷ 0xff ∷ 0xff ∷ 0xff ∷ 0xff ∷ 0xff ∷ 0xff ∷ [];
      one = 0x75 ∷ 0x31 ∷ 0xff ∷ 0xff ∷ 0xff ∷ 0xff ∷ 0xff ∷ 0xff ∷ [];
      one_two = 0x75 ∷ 0x31 ∷ 0xdb ∷ 0xde ∷ 0xff ∷ 0xff ∷ 0xff ∷ 0xff ∷ [];
      two = 0xdb ∷ 0x9c ∷ 0xff ∷ 0xff ∷ 0xff ∷ 0xff ∷ 0xff ∷ 0xff ∷ [];
      two_one = 0xdb ∷ 0x9c ∷ 0x75 ∷ 0x73 ∷ 0xff ∷ 0xff ∷ 0xff ∷ 0xff ∷ [];
      both = 0x51 ∷ 0x10 ∷ 0xff ∷ 0xff ∷ 0xff ∷ 0xff ∷ 0xff ∷ 0xff ∷ [];
      after_first = 8;
      after_second = 10;
      after_both = 4;
    }

abbrev does : Call → Reply → Answered
does x r = record { call = x; reply = r }

abbrev giving : ℕ → List ℕ → ℕ → Reply
giving n h k = told n h none k 0 []

module _ (f : Name → List ℕ → ℕ → List ℕ) where
  abbrev pub g : List ℕ → ℕ → List ℕ
  g = f (record { node = 3; local = 7 })

  abbrev pub three : Wide → ℕ → List ℕ → List Answered
  three v m p =
      let t = written v in
      let whole = by p t.whole in
      let one = by (g p t.by_first) t.one in
      let one_two = by (g (g p t.by_first) t.then_second) t.one_two in
      let two = by (g p t.by_second) t.two in
      let two_one = by (g (g p t.by_second) t.then_first) t.two_one in
      let both = by (g p t.by_shared) t.both in
      does (validating m whole) (giving 0 none 0)
      -- by the first and then the second
      ∷ does (weakening_by t.first whole) (giving 0 one t.after_first)
      ∷ does (weakening_by t.second one) (giving 0 one_two t.after_both)
      ∷ does (validating m one_two) (giving 0 none 0)
      ∷ does (reducing m one_two) (giving 0 both 0)
      -- by the second and then the first
      ∷ does (weakening_by t.second whole) (giving 0 two t.after_second)
      ∷ does (weakening_by t.first two) (giving 0 two_one t.after_both)
      ∷ does (validating m two_one) (giving 0 none 0)
      ∷ does (reducing m two_one) (giving 0 both 0)
      -- once
      ∷ does (weakening_by t.shared whole) (giving 0 both t.after_both)
      ∷ does (validating m both) (giving 0 none 0)
      ∷ does (reducing m both) (giving 0 both 0)
      ∷ []

  abbrev pub last : List ℕ → List ℕ
  last p = by (g (g (g p 0xfe) 0xfd) 0xfb) (0xfe ∷ 0xfd ∷ 0xfb ∷ 0xff ∷ [])

  abbrev pub spent : ℕ → List ℕ → List Answered
  spent m p =
      let one = by (g (g (g (g p 0xfe) 0xfd) 0xfb) 0x7f) (0xfe ∷ 0xfd ∷ 0xfb ∷ 0x7f ∷ []) in
      let two = by (g (g (g (g p 0xfe) 0xfd) 0xfb) 0xbf) (0xfe ∷ 0xfd ∷ 0xfb ∷ 0xbf ∷ []) in
      let both = by (g (g (g (g p 0xfe) 0xfd) 0xfb) 0x3f) (0xfe ∷ 0xfd ∷ 0xfb ∷ 0x3f ∷ []) in
      does (validating m (last p)) (giving 0 none 0)
      -- by 78, and then by b8; by b8, and then by 78
      ∷ does (weakening_by 0x78 (last p)) (giving 0 one 4)
      ∷ does (weakening_by 0xb8 one) (giving 17 none 0)
      ∷ does (weakening_by 0xb8 (last p)) (giving 0 two 4)
      ∷ does (weakening_by 0x78 two) (giving 17 none 0)
      ∷ does (weakening_by 0x38 two) (giving 17 none 0)
      -- once by 38; and then by b8, which excludes nothing more
      ∷ does (weakening_by 0x38 (last p)) (giving 0 both 3)
      ∷ does (weakening_by 0xb8 both) (giving 0 both 3)
      ∷ does (validating m both) (giving 0 none 0)
      ∷ does (reducing m both) (giving 0 (by (g p 0x38) (0x38 ∷ 0xff ∷ 0xff ∷ 0xff ∷ [])) 0)
      ∷ []

  abbrev pub given : Wide → List ℕ → Way → List ℕ
  given v p first_second = by (g (g p (written v).by_first) (written v).then_second) (written v).one_two
  given v p second_first = by (g (g p (written v).by_second) (written v).then_first) (written v).two_one
  given v p once = by (g p (written v).by_shared) (written v).both

  abbrev pub Told : Copy → List Answered → Type 0
  Told c xs = map (λ (a : Answered). on_copy f c a.call) xs ≡ map (λ (a : Answered). a.reply) xs

  pub record ThreeTold (v : Wide) (r w : List ℕ) (b c d y z : ℕ) : Type 0 where
    pub reading : Told (keeping v r w b c d y z) (three v 1 r)
    pub writing : Told (keeping v r w b c d y z) (three v 2 w)

  pub record SpentTold (r w : List ℕ) (b c d y z : ℕ) : Type 0 where
    pub reading : Told (keeping of_eight r w b c d y z) (spent 1 r)
    pub writing : Told (keeping of_eight r w b c d y z) (spent 2 w)

  pub record WayMet (v : Wide) (m : ℕ) (p : List ℕ) (c : Copy) : Type 0 where
    pub start : Start f m (by p (written v).whole) c
    pub both : Both (width_of (decoded (by p (written v).whole))) (written v).first (written v).second (written v).shared
    pub done : (x : Way)
        → Done (on_copy f c) (masks (written v).first (written v).second (written v).shared x) (by p (written v).whole)
    pub gives : (x : Way)
        → cut (on_copy f c) (masks (written v).first (written v).second (written v).shared x) (by p (written v).whole)
        ≡ given v p x

  abbrev pub WaysMetWith : Type 0
  WaysMetWith =
      (v : Wide) (r w : List ℕ) (b c d y z : ℕ) → Bytes 16 r → Bytes 16 w
      → WayMet v 1 r (keeping v r w b c d y z) × WayMet v 2 w (keeping v r w b c d y z)

  pub record EntriesMet (r w : List ℕ) (b c d y z : ℕ) : Type 0 where
    pub start : Start f 1 (by r (written of_eight).whole) (keeping of_eight r w b c d y z)
    pub first : made f (decoded (by r (written of_eight).whole)) (either 0x75 0xdc) 2
        ≡ Registers.given (decoded (given of_eight r first_second))
    pub second : made f (decoded (by r (written of_eight).whole)) (either 0xdc 0x75) 2
        ≡ Registers.given (decoded (given of_eight r second_first))
    pub ways : SameWays (either 0x75 0xdc) 2 (either 0xdc 0x75) 2

abbrev pub RepliesTold : Type 0
RepliesTold =
    (f : Name → List ℕ → ℕ → List ℕ) → SixteenBytes f → (v : Wide) (r w : List ℕ) (b c d y z : ℕ) → length r ≡ 16 → length w ≡ 16
    → ThreeTold f v r w b c d y z × SpentTold f r w b c d y z

abbrev pub WaysMet : Type 0
WaysMet =
    (f : Name → List ℕ → ℕ → List ℕ) → SixteenBytes f
    → WaysMetWith f × ((r w : List ℕ) (b c d y z : ℕ) → Bytes 16 r → Bytes 16 w → EntriesMet f r w b c d y z)
