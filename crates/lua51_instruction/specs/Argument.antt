-- What an operand stands for (document 01, under instruction/argument.rs).
use Rattle.std.specs.Prelude.{ℕ, ◌-◌, cond, ltb}
use Rattle.lua51_instruction.specs.declared.argument.RegisterOrConstant.{RegisterOrConstant}
use Rattle.lua51_instruction.specs.declared.argument.RegisterOrConstant.TheVariants.{Register, Constant}

-- 'An operand B or C that may be either is a constant (less 256) above 255'
abbrev pub register_or_constant : ℕ → RegisterOrConstant
register_or_constant x = cond (ltb 255 x) (Constant (x - 256)) (Register x)
