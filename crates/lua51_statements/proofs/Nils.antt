-- The lines 'R(r) gets nil', as LOADNIL and the entry block have them. Assumes nothing.
use Prim.Native.Nat.{ℕ, zero, suc, ◌+◌, ◌-◌, ◌*◌, ◌≤◌}
use mathlib.Core.List.{List, [], ◌∷◌, ◌++◌, flat_map, append-nil}
use mathlib.Core.Path.{◌≡◌, refl, ap, sym, ◌∙◌}
use native.Mathlib.Omega.{arith}
use lib.ListN.{length, length-append}
use lib.Seq.{take_all}
use Rattle.std.proofs.lemmas.List.{map-append}
use Rattle.std.proofs.lemmas.Grind.{flat_map-append}
use Rattle.lines.specs.Line.{letter_s, line}
use Rattle.lines.specs.Cell.{most_in_columns}
use Rattle.lines.specs.Out.{Puts}
use Rattle.lines.specs.declared.Output.{Output}
use Rattle.lines.proofs.Decimal.{line_length}
use Rattle.lines.proofs.Puts.{puts_nothing, puts_then, puts_equal}
use Rattle.basics.specs.Range.{over, only}
use Rattle.basics.proofs.Range.{over_length, over_split}
use Rattle.lua51_instruction.specs.Word.{LOADNIL, number_of, op_of}
use Rattle.lua51_instruction.specs.Proto.{Proto, opcode, arg_a, arg_b}
use Rattle.ast.specs.Statement.{Stmt, run, count, exprs, expr, nil, set_register}
use Rattle.lua51_lifter.specs.Lift.{statements_by}
use Rattle.lua51_lifter.specs.Blocks.{Named, name, naming}
use Rattle.lua51_lifter.specs.Listing.{named_numbers, statement_line}
use Rattle.lua51_statements.specs.Lines.{own_statements, line_within}

-- a run that the buffer holds is printed whole
pub line_fits : (room : ℕ) (s : Named) → length (run s.says) ≤ room → line_within room s ≡ statement_line s
unfolding line_within named_numbers
line_fits room s h = rw (take_all room (run s.says) h)

-- R(r) gets nil, for each of n registers from r on
abbrev pub nils : ℕ → ℕ → List Stmt
nils r n = over (λ x. only (set_register x nil)) r n

-- its numbers
nil_run : (r : ℕ) → run (set_register r nil) ≡ 1 ∷ 1 ∷ 1 ∷ 1 ∷ r ∷ 3 ∷ []
unfolding run count exprs expr
nil_run r = refl

-- such statements name word i, whose opcode is o
module _ (i o : ℕ) where
  -- the line of one, and how long it is
  pub nil_line : (r : ℕ) → statement_line (name i o (set_register r nil)) ≡ line letter_s (i ∷ o ∷ 1 ∷ 1 ∷ 1 ∷ 1 ∷ r ∷ 3 ∷ [])
  unfolding named_numbers
  nil_line r = ap (λ (xs : List ℕ). line letter_s (i ∷ o ∷ xs)) (nil_run r)

  nil_length : (r : ℕ) → i ≤ most_in_columns → o ≤ most_in_columns → r ≤ most_in_columns
      → length (statement_line (name i o (set_register r nil))) ≡ 58
  nil_length r a b h =
      rw (nil_line r)
      (line_length letter_s (i ∷ o ∷ 1 ∷ 1 ∷ 1 ∷ 1 ∷ r ∷ 3 ∷ []) (a, (b, (omega arith, (omega arith, (omega arith, (omega arith, (h, (omega arith, tt)))))))))

  pub nils_length : (r n : ℕ) → i ≤ most_in_columns → o ≤ most_in_columns → r + n ≤ most_in_columns
      → length (flat_map statement_line (naming i o (nils r n))) ≡ 58 * n
  unfolding over naming flat_map
  nils_length r zero a b h = refl
  nils_length r (suc n) a b h =
      rw (length-append (statement_line (name i o (set_register r nil))) (flat_map statement_line (naming i o (nils (r + 1) n))))
      (omega (arith, nil_length r a b (omega arith), nils_length (r + 1) n a b (omega arith)))

  -- a loop that prints them: its start, and one turn
  pub nils_start : (out : Output) (r : ℕ) → Puts out out (flat_map statement_line (naming i o (nils r 0)))
  unfolding over naming flat_map
  nils_start out r = puts_nothing out

  nils_more : (r n : ℕ)
      → flat_map statement_line (naming i o (nils r n)) ++ line letter_s (i ∷ o ∷ 1 ∷ 1 ∷ 1 ∷ 1 ∷ (r + n) ∷ 3 ∷ [])
      ≡ flat_map statement_line (naming i o (nils r (n + 1)))
  unfolding over naming flat_map
  nils_more r n =
      let says = λ (x : ℕ). only (set_register x nil) in
      let one = only (set_register (r + n) nil) in
      sym
      (rw (over_split says r n 1, map-append, flat_map-append statement_line (naming i o (nils r n)) (naming i o one), append-nil) (rw (nil_line (r + n))))

  pub nils_turn : {a b c : Output} (r n : ℕ) → Puts a b (flat_map statement_line (naming i o (nils r n)))
      → Puts b c (line letter_s (i ∷ o ∷ 1 ∷ 1 ∷ 1 ∷ 1 ∷ (r + n) ∷ 3 ∷ []))
      → Puts a c (flat_map statement_line (naming i o (nils r (n + 1))))
  nils_turn r n p q = puts_equal (nils_more r n) (puts_then p q)

  -- a buffer of 6 numbers holds each
  pub nils_whole : (room : ℕ) → 6 ≤ room → (r n : ℕ) → flat_map (line_within room) (naming i o (nils r n)) ≡ flat_map statement_line (naming i o (nils r n))
  unfolding over naming flat_map
  nils_whole room h r zero = refl
  nils_whole room h r (suc n) =
      let six : length (run (set_register r nil)) ≤ room = rw (nil_run r) h in
      rw (line_fits room (name i o (set_register r nil)) six, nils_whole room h (r + 1) n)

-- the statements of LOADNIL
pub nils_own : (p : Proto) (i n : ℕ) → opcode p i ≡ number_of LOADNIL → n ≡ length (own_statements p i) → own_statements p i ≡ nils (arg_a p i) n
unfolding op_of statements_by
nils_own p i n o e =
    let many : n ≡ arg_b p i + 1 - arg_a p i = (rw o at e) ∙ over_length (λ x. set_register x nil) (arg_a p i) (arg_b p i + 1 - arg_a p i) in
    rw (o, many)
