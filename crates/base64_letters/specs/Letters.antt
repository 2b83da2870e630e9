-- The alphabet of base 64, RFC 4648 section 4, as bytes in ASCII: A to Z, a to z, 0 to 9, + and /.
use Rattle.std.specs.Prelude.{ℕ, ◌+◌, ◌-◌, cond, ◌&&◌, ltb, leb, eqb}

-- the letter of a value below 64
unfoldable pub letter : ℕ → ℕ
letter v =
    cond (ltb v 26) (65 + v) (cond (ltb v 52) (97 + (v - 26)) (cond (ltb v 62) (48 + (v - 52)) (cond (eqb v 62) 43 47)))

-- the value of a byte, 64 for a byte that is no letter
unfoldable pub value_of : ℕ → ℕ
value_of b =
    cond (leb 65 b && leb b 90) (b - 65)
    (cond (leb 97 b && leb b 122) (b - 97 + 26)
    (cond (leb 48 b && leb b 57) (b - 48 + 52) (cond (eqb b 43) 62 (cond (eqb b 47) 63 64))))
