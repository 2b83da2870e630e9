-- Each call makes one of the four steps. Assumes nothing.
use Rattle.std.proofs.Common.{◌<◌, ◌^◌, ◌∙◌, arith}
use lib.Bits.{bit_xor, xor_lt}
use Rattle.mixer.proofs.GLaws.{half_g_steps}
use Rattle.mixer.proofs.WordLaws.{turn_rotates}
use Rattle.mixer.proofs.half_g.Goals as goal

pub returns : goal.returns
returns c =
    let a = c.args in
    let wd : bit_xor a.w.d c.add-a.result < 2 ^ 64 = xor_lt 64 a.w.d c.add-a.result (omega arith) (omega arith) in
    let wb : bit_xor a.w.b c.add-c.result < 2 ^ 64 = xor_lt 64 a.w.b c.add-c.result (omega arith) (omega arith) in
    half_g_steps _ _ _ _ _ _ _ _ c.add-a.ensures (c.rotate_right-d.ensures ∙ turn_rotates a.m _ (omega arith) (omega arith) wd) c.add-c.ensures
    (c.rotate_right-b.ensures ∙ turn_rotates a.n _ (omega arith) (omega arith) wb)
