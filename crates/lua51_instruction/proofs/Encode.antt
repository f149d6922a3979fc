-- The fields of a word are those that it was made of: each at its place, of its width. Assumes nothing.
use Prim.Native.Nat.{ℕ, ◌<◌}
use native.Mathlib.Omega.{arith}
use mathlib.Core.Path.{◌≡◌}
use Rattle.lua51_instruction.specs.Word.{Op, number_of, field_opcode, field_a, field_b, field_c, field_bx}
use Rattle.lua51_instruction.specs.Encode.{abc, abx}

module _ (o : Op) (a b c : ℕ) (known : number_of o < 64) (small_a : a < 256) (small_b : b < 512) (small_c : c < 512) where
  pub opcode_back_lem : field_opcode (abc o a b c) ≡ number_of o
  opcode_back_lem = omega arith

  pub a_back : field_a (abc o a b c) ≡ a
  a_back = omega arith

  pub b_back : field_b (abc o a b c) ≡ b
  b_back = omega arith

  pub c_back : field_c (abc o a b c) ≡ c
  c_back = omega arith

pub bx_back : (o : Op) (a bx : ℕ) → number_of o < 64 → a < 256 → bx < 262144 → field_bx (abx o a bx) ≡ bx
bx_back o a bx known small_a small = omega arith
