-- FIPS 197, section 4: a byte is a polynomial over the field of two elements, bit i the coefficient of x^i.
-- Polynomials are added by `bit_xor` (4.1). The width w and the modulus m, a polynomial of degree w, are left open where
-- they can be; AES has 8 and 11b.
--     product n a b        a times b, where b has degree below n: a times the constant term of b, and x times the
--                          product of a and the rest
--     division_step w m p   m taken away from a polynomial of degree at most w, where it has the term x^w
--     remainder w m n p    p, of degree below w + n, modulo m: x times the remainder of what stands above the constant
--                          term, and that term, through one more step
--     times w m a b        4.2: the product modulo m
--     modulus              4.2: x^8 + x^4 + x^3 + x + 1
--     dot a b              4.2: multiplication of bytes, modulo that polynomial
--     squares n b          the product of b, b^2, b^4, b^8 .., with n factors after the first
--     inverse b            4.4: b^254, the product of b^2, b^4 .. b^128; it takes zero to zero
-- Assumes nothing.
use Rattle.std.specs.Prelude.{ℕ, zero, suc, ◌+◌, ◌*◌, ◌/◌, ◌%◌, ◌^◌}
use Rattle.std.specs.Int.Bits.{bit_xor}

unfoldable pub product : ℕ → ℕ → ℕ → ℕ
product zero a b = 0
product (suc n) a b = bit_xor (a * (b % 2)) (product n a (b / 2) * 2)

abbrev pub division_step : ℕ → ℕ → ℕ → ℕ
division_step w m p = bit_xor (m * (p / 2 ^ w % 2)) p

unfoldable pub remainder : ℕ → ℕ → ℕ → ℕ → ℕ
remainder w m zero p = p
remainder w m (suc n) p = division_step w m (remainder w m n (p / 2) * 2 + p % 2)

unfoldable pub times : ℕ → ℕ → ℕ → ℕ → ℕ
times w m a b = remainder w m w (product w a b)

abbrev pub modulus : ℕ
modulus = 0x11b

unfoldable pub dot : ℕ → ℕ → ℕ
dot a b = times 8 modulus a b

unfoldable pub squares : ℕ → ℕ → ℕ
squares zero b = b
squares (suc n) b = dot b (squares n (dot b b))

unfoldable pub inverse : ℕ → ℕ
inverse b = squares 6 (dot b b)
