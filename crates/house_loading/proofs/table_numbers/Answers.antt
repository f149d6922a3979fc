-- `table_numbers` meets its contract. The loop's invariant: the lines before line i are read. Assumes nothing.
use native.Mathlib.Omega.{arith}
use Rattle.basics.proofs.Tables.{tabled}
use Rattle.house_table.specs.House.{opcode_count}
use Rattle.house_loading.specs.Loading.{table_line, number_said}
use Rattle.house_loading.specs.TableVerdict.{in_byte}
use Rattle.house_loading.proofs.table_numbers.Goals as goal

pub returns : goal.returns
returns c =
    let l = c.loop-i in
    tabled (λ k. in_byte (number_said (table_line c.args.s.now k))) l.number-items opcode_count l.invariant.0
    (λ k lt. l.invariant.1 k (omega (arith, c.loop-i-test.false)))
