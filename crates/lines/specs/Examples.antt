-- Document 01, "The list of calls": the sample's output line by line, and lines of the other forms; a freeze and joins of
-- document 02.
--     Example            a line that the definitions give, and how it is printed
--     handle b ss        the handle of node 0, local number 2, the password of sixteen bytes b and the selector's bytes ss
--     primary b          the same with a flat selector
--     answered n a b c   the answer with the number n, the handles a and b, and the count c
--     no_handle           a handle that is not given: it has no bytes
--     examples           the list
-- Assumes nothing.
use Rattle.std.specs.Prelude.{ℕ, List, [], ◌∷◌, ◌++◌, replicate}
use Prim.Native.String.{String}
use Rattle.sizes.specs.Sizes.{password_bytes}
use Rattle.handle.specs.Handles.{laid}
use Rattle.lines.specs.Lines.{Answer, call_line, end_line, refused_line}

pub record Example : Type 0 where
  pub given : List ℕ
  pub printed : String

abbrev prints : List ℕ → String → Example
prints l s = record { given = l; printed = s }

abbrev handle : ℕ → List ℕ → List ℕ
handle b ss = (0 ∷ 0 ∷ 2 ∷ []) ++ replicate password_bytes b ++ ss

abbrev primary : ℕ → List ℕ
primary b = handle b (0xff ∷ 0xff ∷ 0xff ∷ 0xff ∷ [])

abbrev no_handle : List ℕ
no_handle = []

abbrev answered : ℕ → List ℕ → List ℕ → ℕ → Answer
answered n a b c = record { number = n; first = laid a; second = laid b; count = c; length = 0 }

unfoldable pub examples : List Example
examples =
    -- the sample
    prints (call_line 1 1 (answered 0 (primary 0x11) (primary 0x22) 0) [])
    "1 1 0 00000211111111111111111111111111111111ffffffff 00000222222222222222222222222222222222ffffffff\n"
    ∷ prints (call_line 3 3 (answered 0 no_handle no_handle 0) []) "3 3 0\n"
    ∷ prints (call_line 2 5 (answered 0 no_handle no_handle 0) (0 ∷ 0 ∷ 0 ∷ 0 ∷ [])) "2 5 0 00000000\n"
    ∷ prints (end_line 3) "end 3\n"
    -- one handle, and a handle with its count
    ∷ prints (call_line 10 9 (answered 0 (primary 0xab) no_handle 0) [])
    "10 9 0 000002ababababababababababababababababffffffff\n"
    ∷ prints (call_line 255 7 (answered 0 (handle 0x11 (0xfe ∷ 0x7d ∷ 0xf3 ∷ 0xff ∷ [])) no_handle 3) [])
    "255 7 0 00000211111111111111111111111111111111fe7df3ff 3\n"
    -- refused calls, a bad code among them
    ∷ prints (call_line 100 1 (answered 7 no_handle no_handle 0) []) "100 1 7\n"
    ∷ prints (call_line 99 255 (answered 3 no_handle no_handle 0) []) "99 255 3\n"
    ∷ prints (call_line 20 7 (answered 21 no_handle no_handle 0) []) "20 7 21\n"
    -- a freeze done, and calls refused with 22
    ∷ prints (call_line 4 10 (answered 0 no_handle no_handle 0) []) "4 10 0\n"
    ∷ prints (call_line 7 2 (answered 22 no_handle no_handle 0) []) "7 2 22\n"
    ∷ prints (call_line 6 6 (answered 22 no_handle no_handle 0) []) "6 6 22\n"
    -- a join done, and joins refused with 23 and 24
    ∷ prints (call_line 12 11 (answered 0 (handle 0xcd (0x1f ∷ 0xff ∷ 0xff ∷ 0xff ∷ [])) no_handle 0) [])
    "12 11 0 000002cdcdcdcdcdcdcdcdcdcdcdcdcdcdcdcd1fffffff\n"
    ∷ prints (call_line 13 11 (answered 23 no_handle no_handle 0) []) "13 11 23\n"
    ∷ prints (call_line 14 11 (answered 24 no_handle no_handle 0) []) "14 11 24\n"
    -- an empty list, and a refused one
    ∷ prints (end_line 0) "end 0\n"
    ∷ prints (refused_line 18) "list 18\n"
    ∷ []
