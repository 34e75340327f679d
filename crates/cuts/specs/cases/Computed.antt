-- Document 02, §10: cuts of one handle computed, for any conversion f and any primary password p. All handles are of node 0 and local
-- number 2.
--     handle_of v ss q    the handle of the width v with the selector ss and the password q
--     small, middle, large    primary handles of each width
--     twice              a handle that was weakened twice; it references 2 to 6
--     last               one flat subselector is left; it references 3 to 7
--     full               none is left; it references 4 to 7
--     numbers ms h       the numbers that weakening h by the masks of ms gets, each on the handle that the one before it gave
--     Cut, cuts          a handle and masks: the numbers, the handle made and its reduction. At each width the two double
--                        cuts give different selectors, and passwords that are made by different parameters; what all three
--                        ways make is reduced alike. Bits of the masks at or above the width change nothing
--     Try, tries         a handle and masks: the numbers alone, up to the first refusal. With one flat subselector left the single
--                        cut is done and either double cut is 17; or one order is done and the other is 17. With none left what
--                        excludes something is 17. Masks that share no segment referenced are 21 in the single cut; in the
--                        double cut at the second, unless the first is refused itself
--     cut, try, told     a row of these lists; what is computed of one
--     CutsTold           these lists are as computed
--     CutsApart          at each width the primary handle is valid, and the two double cuts are accepted and give different selectors
--     Computed           so it is for every conversion and password
--     either x y         a register of two entries, the second weakened from the first: by x, and then by y
--     fourfold x y       one of four: entry 2 by x and then y, entry 4 by y and then x
--     twofold x          one of two: entry 1 by x, entry 2 from it by x again
--     EntriesTold        what becomes of the second entries of registers that have the two masks of width 8 in either order, and of
--                        one that has the first of them twice
--     EntriesComputed    so it is for every conversion and password
-- Assumes nothing.
use Rattle.std.specs.Prelude.{ℕ, ◌≡◌, ◌≢◌, List, [], ◌∷◌, map}
use Rattle.handle.specs.declared.Handle.{Handle}
use Rattle.handle.specs.declared.Width.{Width}
use Rattle.handle.specs.declared.Width.TheVariants.{Four, Eight, Sixteen}
use Rattle.handle.specs.Handles.{Name, width_of, weakening, reduced}
use Rattle.register.specs.Registers.{given, made}
use Rattle.cuts.specs.Cuts.{cut_by, Accepted, Valid}

pub record Cut : Type 0 where
  pub handle : Handle
  pub masks : List ℕ
  pub numbers : List ℕ
  pub made : Handle
  pub reduction : Handle

pub record Try : Type 0 where
  pub handle : Handle
  pub masks : List ℕ
  pub numbers : List ℕ

abbrev cut : Handle → List ℕ → List ℕ → Handle → Handle → Cut
cut h ms ns k r = record { handle = h; masks = ms; numbers = ns; made = k; reduction = r }

abbrev try : Handle → List ℕ → List ℕ → Try
try h ms ns = record { handle = h; masks = ms; numbers = ns }

abbrev pub handle_of : Width → List ℕ → List ℕ → Handle
handle_of v ss q = record { node = 0; local = 2; password = q; width = v; selector = ss }

module _ (f : List ℕ → ℕ → List ℕ) (p : List ℕ) where
  abbrev pub numbers : List ℕ → Handle → List ℕ
  numbers [] h = []
  numbers (m ∷ ms) h =
      (weakening (width_of h) f h m).number ∷ numbers ms (weakening (width_of h) f h m).handle

  abbrev pub small : Handle
  small = handle_of Four (0xf ∷ 0xf ∷ 0xf ∷ 0xf ∷ []) p

  abbrev pub middle : Handle
  middle = handle_of Eight (0xff ∷ 0xff ∷ 0xff ∷ 0xff ∷ []) p

  abbrev pub large : Handle
  large = handle_of Sixteen (0xffff ∷ 0xffff ∷ 0xffff ∷ 0xffff ∷ []) p

  abbrev twice : Handle
  twice = handle_of Eight (0xfe ∷ 0x7d ∷ 0xff ∷ 0xff ∷ []) (f (f p 0xfe) 0x7d)

  abbrev last : Handle
  last = handle_of Eight (0xfe ∷ 0xfd ∷ 0xfb ∷ 0xff ∷ []) (f (f (f p 0xfe) 0xfd) 0xfb)

  abbrev full : Handle
  full = handle_of Eight (0xfe ∷ 0xfd ∷ 0xfb ∷ 0xf7 ∷ []) (f (f (f (f p 0xfe) 0xfd) 0xfb) 0xf7)

  unfoldable pub cuts : List Cut
  cuts =
      -- width 8, a primary handle: by 75, which leaves 0 2 4 5 6, and by dc, which leaves 2 3 4 6 7; both leave 2 4 6
      cut middle (0x75 ∷ 0xdc ∷ []) (0 ∷ 0 ∷ []) (handle_of Eight (0x75 ∷ 0xde ∷ 0xff ∷ 0xff ∷ []) (f (f p 0x75) 0xde))
      (handle_of Eight (0x54 ∷ 0xff ∷ 0xff ∷ 0xff ∷ []) (f p 0x54))
      ∷ cut middle (0xdc ∷ 0x75 ∷ []) (0 ∷ 0 ∷ []) (handle_of Eight (0xdc ∷ 0x77 ∷ 0xff ∷ 0xff ∷ []) (f (f p 0xdc) 0x77))
      (handle_of Eight (0x54 ∷ 0xff ∷ 0xff ∷ 0xff ∷ []) (f p 0x54))
      ∷ cut middle (0x54 ∷ []) (0 ∷ []) (handle_of Eight (0x54 ∷ 0xff ∷ 0xff ∷ 0xff ∷ []) (f p 0x54))
      (handle_of Eight (0x54 ∷ 0xff ∷ 0xff ∷ 0xff ∷ []) (f p 0x54))
      -- the same masks, with bits above the width, on a handle that was weakened twice: without 5 and without 3
      ∷ cut twice (0xdc ∷ 0xa575 ∷ []) (0 ∷ 0 ∷ [])
      (handle_of Eight (0xfe ∷ 0x7d ∷ 0xdf ∷ 0xf7 ∷ []) (f (f (f (f p 0xfe) 0x7d) 0xdf) 0xf7))
      (handle_of Eight (0x54 ∷ 0xff ∷ 0xff ∷ 0xff ∷ []) (f p 0x54))
      ∷ cut twice (0x75 ∷ 0x5adc ∷ []) (0 ∷ 0 ∷ [])
      (handle_of Eight (0xfe ∷ 0x7d ∷ 0xf7 ∷ 0xdf ∷ []) (f (f (f (f p 0xfe) 0x7d) 0xf7) 0xdf))
      (handle_of Eight (0x54 ∷ 0xff ∷ 0xff ∷ 0xff ∷ []) (f p 0x54))
      ∷ cut twice (0xff54 ∷ []) (0 ∷ [])
      (handle_of Eight (0xfe ∷ 0x7d ∷ 0xd7 ∷ 0xff ∷ []) (f (f (f p 0xfe) 0x7d) 0xd7))
      (handle_of Eight (0x54 ∷ 0xff ∷ 0xff ∷ 0xff ∷ []) (f p 0x54))
      -- width 4, the masks with bits above it: by 6, by c; both leave 2
      ∷ cut small (0x56 ∷ 0xac ∷ []) (0 ∷ 0 ∷ []) (handle_of Four (0x6 ∷ 0xd ∷ 0xf ∷ 0xf ∷ []) (f (f p 0x6) 0xd))
      (handle_of Four (0x4 ∷ 0xf ∷ 0xf ∷ 0xf ∷ []) (f p 0x4))
      ∷ cut small (0xac ∷ 0x56 ∷ []) (0 ∷ 0 ∷ []) (handle_of Four (0xc ∷ 0x7 ∷ 0xf ∷ 0xf ∷ []) (f (f p 0xc) 0x7))
      (handle_of Four (0x4 ∷ 0xf ∷ 0xf ∷ 0xf ∷ []) (f p 0x4))
      ∷ cut small (0xa104 ∷ []) (0 ∷ []) (handle_of Four (0x4 ∷ 0xf ∷ 0xf ∷ 0xf ∷ []) (f p 0x4))
      (handle_of Four (0x4 ∷ 0xf ∷ 0xf ∷ 0xf ∷ []) (f p 0x4))
      -- width 16
      ∷ cut large (0x7531 ∷ 0xdb9c ∷ []) (0 ∷ 0 ∷ [])
      (handle_of Sixteen (0x7531 ∷ 0xdbde ∷ 0xffff ∷ 0xffff ∷ []) (f (f p 0x7531) 0xdbde))
      (handle_of Sixteen (0x5110 ∷ 0xffff ∷ 0xffff ∷ 0xffff ∷ []) (f p 0x5110))
      ∷ cut large (0xdb9c ∷ 0x7531 ∷ []) (0 ∷ 0 ∷ [])
      (handle_of Sixteen (0xdb9c ∷ 0x7573 ∷ 0xffff ∷ 0xffff ∷ []) (f (f p 0xdb9c) 0x7573))
      (handle_of Sixteen (0x5110 ∷ 0xffff ∷ 0xffff ∷ 0xffff ∷ []) (f p 0x5110))
      ∷ cut large (0x5110 ∷ []) (0 ∷ []) (handle_of Sixteen (0x5110 ∷ 0xffff ∷ 0xffff ∷ 0xffff ∷ []) (f p 0x5110))
      (handle_of Sixteen (0x5110 ∷ 0xffff ∷ 0xffff ∷ 0xffff ∷ []) (f p 0x5110))
      -- one flat subselector left: by 38 and then b8, which excludes nothing more, and once
      ∷ cut last (0x38 ∷ 0xb8 ∷ []) (0 ∷ 0 ∷ [])
      (handle_of Eight (0xfe ∷ 0xfd ∷ 0xfb ∷ 0x3f ∷ []) (f (f (f (f p 0xfe) 0xfd) 0xfb) 0x3f))
      (handle_of Eight (0x38 ∷ 0xff ∷ 0xff ∷ 0xff ∷ []) (f p 0x38))
      ∷ cut last (0x38 ∷ []) (0 ∷ [])
      (handle_of Eight (0xfe ∷ 0xfd ∷ 0xfb ∷ 0x3f ∷ []) (f (f (f (f p 0xfe) 0xfd) 0xfb) 0x3f))
      (handle_of Eight (0x38 ∷ 0xff ∷ 0xff ∷ 0xff ∷ []) (f p 0x38))
      -- masks that exclude nothing: a primary handle is its own reduction
      ∷ cut middle (0xff ∷ 0x1ff ∷ []) (0 ∷ 0 ∷ []) middle middle
      ∷ []

  unfoldable pub tries : List Try
  tries =
      -- the single cut alone: without 7 and without 6
      try last (0x78 ∷ 0xb8 ∷ []) (0 ∷ 17 ∷ [])
      ∷ try last (0xb8 ∷ 0x78 ∷ []) (0 ∷ 17 ∷ [])
      ∷ try last (0x38 ∷ []) (0 ∷ [])
      -- one order alone: 38 excludes what b8 does
      ∷ try last (0x38 ∷ 0xb8 ∷ []) (0 ∷ 0 ∷ [])
      ∷ try last (0xb8 ∷ 0x38 ∷ []) (0 ∷ 17 ∷ [])
      -- no subselector flat: what excludes something is 17, as the first cut or the second
      ∷ try full (0xf0 ∷ 0x70 ∷ []) (0 ∷ 17 ∷ [])
      ∷ try full (0x70 ∷ []) (17 ∷ [])
      ∷ try full (0x30 ∷ []) (17 ∷ [])
      ∷ try full (0xf0 ∷ 0xf1 ∷ []) (0 ∷ 0 ∷ [])
      -- nothing shared
      ∷ try middle (0x0f ∷ 0xf0 ∷ []) (0 ∷ 21 ∷ [])
      ∷ try middle (0xf0 ∷ 0x0f ∷ []) (0 ∷ 21 ∷ [])
      ∷ try middle (0x00 ∷ []) (21 ∷ [])
      -- nothing shared that is referenced: 0 and 1 are not
      ∷ try twice (0x1f ∷ 0x63 ∷ []) (0 ∷ 21 ∷ [])
      ∷ try twice (0x03 ∷ []) (21 ∷ [])
      ∷ []

  abbrev told : Cut → Cut
  told x =
      let k = cut_by (width_of x.handle) f x.masks x.handle in
      cut x.handle x.masks (numbers x.masks x.handle) k (reduced (width_of x.handle) f k p)

  pub record CutsTold : Type 0 where
    pub made : map told cuts ≡ cuts
    pub tried : map (λ (x : Try). try x.handle x.masks (numbers x.masks x.handle)) tries ≡ tries

  pub record CutsApart : Type 0 where
    pub valid : Valid 4 f p small × Valid 8 f p middle × Valid 16 f p large
    pub accepted : Accepted 4 f (0x56 ∷ 0xac ∷ []) small
        × Accepted 4 f (0xac ∷ 0x56 ∷ []) small
        × Accepted 8 f (0x75 ∷ 0xdc ∷ []) middle
        × Accepted 8 f (0xdc ∷ 0x75 ∷ []) middle
        × Accepted 16 f (0x7531 ∷ 0xdb9c ∷ []) large
        × Accepted 16 f (0xdb9c ∷ 0x7531 ∷ []) large
    pub four : (cut_by 4 f (0x56 ∷ 0xac ∷ []) small).selector ≢ (cut_by 4 f (0xac ∷ 0x56 ∷ []) small).selector
    pub eight : (cut_by 8 f (0x75 ∷ 0xdc ∷ []) middle).selector ≢ (cut_by 8 f (0xdc ∷ 0x75 ∷ []) middle).selector
    pub sixteen : (cut_by 16 f (0x7531 ∷ 0xdb9c ∷ []) large).selector ≢ (cut_by 16 f (0xdb9c ∷ 0x7531 ∷ []) large).selector

abbrev pub Computed : Type 0
Computed = (f : List ℕ → ℕ → List ℕ) (p : List ℕ) → CutsTold f p × CutsApart f p

-- ---- registers

abbrev pub either : ℕ → ℕ → List ℕ
either x y = 0 ∷ x ∷ 1 ∷ y ∷ []

abbrev pub fourfold : ℕ → ℕ → List ℕ
fourfold x y = 0 ∷ x ∷ 1 ∷ y ∷ 0 ∷ y ∷ 3 ∷ x ∷ []

abbrev pub twofold : ℕ → List ℕ
twofold x = 0 ∷ x ∷ 1 ∷ x ∷ []

module _ (f : Name → List ℕ → ℕ → List ℕ) (p : List ℕ) where
  -- f for the name of these handles
  abbrev g : List ℕ → ℕ → List ℕ
  g = f (record { node = 0; local = 2 })

  pub record EntriesTold : Type 0 where
    pub first : made f (middle g p) (either 0x75 0xdc) 2
        ≡ given (handle_of Eight (0x75 ∷ 0xde ∷ 0xff ∷ 0xff ∷ []) (g (g p 0x75) 0xde))
    pub second : made f (middle g p) (either 0xdc 0x75) 2
        ≡ given (handle_of Eight (0xdc ∷ 0x77 ∷ 0xff ∷ 0xff ∷ []) (g (g p 0xdc) 0x77))
    pub again : made f (middle g p) (twofold 0x75) 2 ≡ given (handle_of Eight (0x75 ∷ 0xff ∷ 0xff ∷ 0xff ∷ []) (g p 0x75))

abbrev pub EntriesComputed : Type 0
EntriesComputed = (f : Name → List ℕ → ℕ → List ℕ) (p : List ℕ) → EntriesTold f p
