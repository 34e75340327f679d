-- Document 01, "The handle", "Validation", "Weakening", "Reduction", and what call 7 gives; document 02, §1, §5 and §8. A
-- handle and its bytes:
--     Name               what names a cluster: a node and a local number
--     node_of, name_of     the node and the name of a handle
--     same_name h k       h and k have the same node and the same local number
--     width_of            how many segments a cluster of the width of a handle has; none where there is no handle
--     encoded h          the bytes of h: node (high byte first), local number, password, selector; none without a width
--     decoded b          the handle that the bytes b hold; none where their length is not that of a width
--     no_handle           no handle: it has no width and no bytes
--     laid b             the bytes b with their length, in an array of the longest handle's bytes that ends in zeros
--     written h          the bytes of h so laid out
--     bytes_in a          the bytes that such an array and its length hold
--     Holdable h         h has a width; node and local number fit in their bytes, and the four subselectors in the width;
--                        the password has sixteen bytes
--     same_password a b   the sixteen bytes of a are those of b
--     renewed h p ss     the name and the width of h, with the password p and the selector ss
-- Weakening's numbers and replies:
--     Row, first_of       a number of the table and whether it applies; the first that applies, or 0
--     no_width h          there is no handle: the bytes had the length of no width
--     no_such_place h      node above 3 or local number above 7
--     Weakened           the reply of a weakening: a number, a handle and how many segments it references
--     refusal n          the reply to a call refused with n: no handle and a zero count
--     reply n h c        the handle h and the count c where n is 0, else the refusal with n
--     reply_of r         the reply that the code's result stands for: 0 and what it gives, or the refusal with its number
--     own_rows h          the rows that weakening h meets whatever the mask
--     rows h m           the rows that weakening h by the mask m meets, in the table's order
--     weaken_number h m   what it is turned down with, or 0
-- Over a conversion f, which takes a password and a parameter to a password:
--     converted p s      p through f with the subselector s; a flat one is skipped
--     through ss p       p through f with each subselector that is not flat, 0 first
--     validates p h      the primary password p ends as the password of h
--     cut h k s          h with s for subselector k, its password through f with s
--     weakened h m       what weakening by the mask m makes of h, where it is not refused
--     made h p s         the set s of segments in subselector 0, its password made from the primary password p
--     reduced h p        what reduction makes of h, from the primary password p of its mode
--     joined h k p       what joining makes of h and k, from the primary password p of the mode: the union of what either
--                        references in subselector 0
--     weakening h m      the reply of call 7
-- Assumes nothing.
use Rattle.std.specs.Prelude.{ℕ, zero, suc, ◌-◌, ◌^◌, ◌<◌, ◌≡◌, Bool, true, false, ◌&&◌, ◌||◌, cond, List, [], ◌∷◌, ◌++◌, eqb, leb, length, get_or, set, take, drop, replicate, Result, Ok, Err}
use Rattle.bits.specs.Bytes.{bytes, word}
use Rattle.loops.specs.Below.{every}
use Rattle.handle.specs.declared.Handle.{Handle}
use Rattle.handle.specs.declared.HandleBytes.{HandleBytes}
use Rattle.handle.specs.declared.Weaker.{Weaker}
use Rattle.handle.specs.declared.Width.{Width}
use Rattle.handle.specs.declared.Width.TheVariants.{None, Four, Eight, Sixteen}
use Rattle.sizes.specs.Sizes.{nodes, clusters, password_bytes}
use Rattle.numbers.specs.declared.Number.{Number}
use Rattle.numbers.specs.Codes.{code}
use Rattle.numbers.specs.Numbers.{place_number, gapped_number, empty_number, spent_number, wrong_length_number}
use Rattle.handle.specs.Sizes.{subselectors}
use Rattle.handle.specs.Sizes.{node_bytes, local_at, password_at, selector_at}
use Rattle.handle.specs.Widths.{bits_of, most_bytes, width_for, packed, unpacked}
use Rattle.handle.specs.Selectors.{flat, all_flat, gapped, first_flat, common, referenced, Within}
use Rattle.handle.specs.Selectors.{keeps_all, keeps_none, parameter, spent, union, in_first}

-- ---- a handle and its bytes

pub record Name : Type 0 where
  pub node : ℕ
  pub local : ℕ

abbrev pub node_of : Handle → ℕ
node_of h = h.node

abbrev pub name_of : Handle → Name
name_of h = record { node = h.node; local = h.local }

abbrev pub same_name : Handle → Handle → Bool
same_name h k = eqb (node_of h) (node_of k) && eqb h.local k.local

abbrev pub width_of : Handle → ℕ
width_of h = bits_of h.width

abbrev pub no_handle : Handle
no_handle =
    record {
      node = 0;
      local = 0;
      password = replicate password_bytes 0;
      width = None;
      selector = replicate subselectors 0;
    }

-- the parts before the selector, and then the bytes t; with the selector of the width v
abbrev pub before : Handle → List ℕ → List ℕ
before h t = bytes node_bytes h.node ++ (h.local ∷ []) ++ h.password ++ t

abbrev body : Width → Handle → List ℕ
body v h = before h (packed v h.selector)

abbrev pub laid_with : Handle → ℕ → List ℕ → HandleBytes
laid_with h n t = record { length = n; bytes = before h t }

abbrev pub encoded_as : Width → Handle → List ℕ
encoded_as None h = []
encoded_as Four h = body Four h
encoded_as Eight h = body Eight h
encoded_as Sixteen h = body Sixteen h

unfoldable pub encoded : Handle → List ℕ
encoded h = encoded_as h.width h

abbrev pub laid : List ℕ → HandleBytes
laid b = record { length = length b; bytes = b ++ replicate (most_bytes - length b) 0 }

-- the bytes that an array and a length hold
abbrev pub bytes_in : HandleBytes → List ℕ
bytes_in b = take b.length b.bytes

unfoldable pub written : Handle → HandleBytes
written h = laid (encoded h)

-- the handle of the width v that the bytes hold, with the selector ss and with that of the bytes
abbrev pub held_with : Width → List ℕ → List ℕ → Handle
held_with v b ss =
    record {
      node = word (take node_bytes b);
      local = get_or b local_at 0;
      password = take password_bytes (drop password_at b);
      width = v;
      selector = ss;
    }

abbrev pub held : Width → List ℕ → Handle
held v b = held_with v b (unpacked v (drop selector_at b))

abbrev pub decoded_as : Width → List ℕ → Handle
decoded_as None b = no_handle
decoded_as Four b = held Four b
decoded_as Eight b = held Eight b
decoded_as Sixteen b = held Sixteen b

unfoldable pub decoded : List ℕ → Handle
decoded b = decoded_as (width_for (length b)) b

pub record Holdable (h : Handle) : Type 0 where
  pub wide : 0 < width_of h
  pub node : h.node < 256 ^ node_bytes
  pub local : h.local < 256
  pub password : length h.password ≡ password_bytes
  pub selector : length h.selector ≡ subselectors
  pub within : Within (width_of h) h.selector

unfoldable pub same_password : List ℕ → List ℕ → Bool
same_password a b = every password_bytes (λ k. eqb (get_or a k 0) (get_or b k 0))

abbrev pub renewed : Handle → List ℕ → List ℕ → Handle
renewed h p ss = record { node = h.node; local = h.local; password = p; width = h.width; selector = ss }

abbrev pub cut : (List ℕ → ℕ → List ℕ) → Handle → ℕ → ℕ → Handle
cut f h k s = renewed h (f h.password s) (set h.selector k s)

-- ---- weakening's numbers and replies

pub record Row : Type 0 where
  pub number : ℕ
  pub applies : Bool

abbrev pub first_of : List Row → ℕ
first_of [] = 0
first_of (r ∷ rs) = cond r.applies r.number (first_of rs)

abbrev pub no_width : Handle → Bool
no_width h = eqb (width_of h) 0

abbrev pub no_such_place : Handle → Bool
no_such_place h = leb nodes (node_of h) || leb clusters h.local

pub record Weakened : Type 0 where
  pub number : ℕ
  pub handle : Handle
  pub count : ℕ

abbrev pub refusal : ℕ → Weakened
refusal n = record { number = n; handle = no_handle; count = 0 }

abbrev pub reply : ℕ → Handle → ℕ → Weakened
reply zero h c = record { number = 0; handle = h; count = c }
reply (suc n) h c = refusal (suc n)

abbrev pub reply_of : Result Weaker Number → Weakened
reply_of (Ok w) = record { number = 0; handle = w.handle; count = w.count }
reply_of (Err n) = refusal (code n)

module _ (w : ℕ) where
  abbrev pub own_rows : Handle → List Row
  own_rows h =
      record { number = wrong_length_number; applies = no_width h }
      ∷ record { number = place_number; applies = no_such_place h }
      ∷ record { number = gapped_number; applies = gapped w h.selector }
      ∷ []

  abbrev pub rows : Handle → ℕ → List Row
  rows h mask =
      own_rows h
      ++ record { number = empty_number; applies = keeps_none w mask h.selector }
      ∷ record { number = spent_number; applies = spent w mask h.selector }
      ∷ []

  unfoldable pub weaken_number : Handle → ℕ → ℕ
  weaken_number h mask = first_of (rows h mask)

  -- ---- validation, weakening, reduction

  module _ (f : List ℕ → ℕ → List ℕ) where
    abbrev pub converted : List ℕ → ℕ → List ℕ
    converted p s = elim (flat w s) [ true ↦ p | false ↦ f p s ]

    abbrev pub through : List ℕ → List ℕ → List ℕ
    through [] p = p
    through (s ∷ ss) p = through ss (converted p s)

    unfoldable pub validates : List ℕ → Handle → Bool
    validates p h = same_password (through h.selector p) h.password

    unfoldable pub weakened : Handle → ℕ → Handle
    weakened h mask =
        elim (keeps_all w mask h.selector) [
          | true ↦ h
          | false ↦ cut f h (first_flat w h.selector) (parameter w mask h.selector)
        ]

    abbrev pub made : Handle → List ℕ → ℕ → Handle
    made h p s = renewed h (f p s) (in_first w s)

    unfoldable pub reduced : Handle → List ℕ → Handle
    reduced h p = elim (all_flat w h.selector) [ true ↦ h | false ↦ made h p (common w h.selector) ]

    unfoldable pub joined : Handle → Handle → List ℕ → Handle
    joined h k p = made h p (union w h.selector k.selector)

    unfoldable pub weakening : Handle → ℕ → Weakened
    weakening h mask = reply (weaken_number h mask) (weakened h mask) (referenced w (weakened h mask).selector)
