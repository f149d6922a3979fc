-- `function::fill_nested`: a function's place in the table is its place. Assumes nothing.
use Rattle.std.proofs.Common.{◌≡◌, ◌∙◌, sym, ap, refl, ℕ, ◌+◌, ◌≤◌, ◌<◌, [], ◌∷◌, length, get_or, drop, arith}
use Rattle.lua51_function.specs.Function.{held_of, number_in, upvalues_in}
use Rattle.lua51_deserializer.specs.Chunk.{Place, nowhere, nested_in, bytes_of}
use Rattle.lua51_function.proofs.Buffers.{filling_none, filling_as, filling_more, filled_full, filled_all}
use Rattle.lua51_function.proofs.Buffers.{held_at, held_length, nested_start, nested_found, nested_other, nested_none}
use Rattle.lua51_value.proofs.Ends.{byte_within}
use Rattle.lua51_function.proofs.function.fill_nested.Goals as goal
use Rattle.lua51_function.proofs.function.fill_nested.Goals.{then-from-me+else-room-n, else-from-me}

pub loop-k-init : goal.loop-k-init
loop-k-init c =
    let ps = held_of c.args.chunk.functions.now in
    let me = c.args.me in
    let s = c.args.chunk.bytes.now in
    record {
      first = omega arith;
      numbers = filling_as (filling_none _ _) (nested_start number_in me ps);
      nups = filling_as (filling_none _ _) (nested_start (upvalues_in s) me ps);
    }

pub returns-then-room-n : goal.returns-then-room-n
returns-then-room-n c =
    let l = c.loop-k in
    record { numbers = filled_full l.invariant.numbers _ (omega arith); nups = filled_full l.invariant.nups _ (omega arith) }

pub loop-k-preserved : goal.loop-k-preserved
loop-k-preserved c =
    let l = c.loop-k in
    let k = l.k in
    let a = c.args in
    let s = a.chunk.bytes.now in
    let t = a.chunk.functions.now in
    let ps = held_of t in
    let h : k < length ps = omega (arith, held_length t, c.held_count-count.ensures, c.loop-k-test.true) in
    let place = held_at t k (omega (arith, c.held_count-count.ensures, c.loop-k-test.true)) in
    elim c.if-from-me.branch [
      | then-from-me+else-room-n w ↦
          let me : (get_or ps k nowhere).parent ≡ a.me = ap (λ (p : Place). p.parent) place ∙ sym c.from.ensures ∙ w.if-from-me.true in
          let next : (f : ℕ → Place → ℕ) → nested_in f a.me k (drop k ps) ≡ f k (get_or ps k nowhere) ∷ nested_in f a.me (k + 1) (drop (k + 1) ps) =
          λ f. nested_found f a.me ps k l.invariant.first h me in
          let value : w.at_or.result ≡ upvalues_in s k (get_or ps k nowhere) =
          w.at_or.ensures ∙ rw (w.bytes_of.ensures, place) (byte_within s (bytes_of s (get_or t.starts k 0))) in
          rw (w.numbers-is, w.nups-is, w.n-is) (record {
            first = omega arith;
            numbers = filling_more k (filling_as l.invariant.numbers (next number_in)) refl (omega arith);
            nups = filling_more _ (filling_as l.invariant.nups (next (upvalues_in s))) value (omega arith);
          })
      | else-from-me w ↦
          let next : (f : ℕ → Place → ℕ) → nested_in f a.me k (drop k ps) ≡ nested_in f a.me (k + 1) (drop (k + 1) ps) =
          λ f. nested_other f a.me ps k h (λ e. w.if-from-me.false (c.from.ensures ∙ ap (λ (p : Place). p.parent) (sym place) ∙ e)) in
          rw (w.numbers-is, w.nups-is, w.n-is) (record {
            first = omega arith;
            numbers = filling_as l.invariant.numbers (next number_in);
            nups = filling_as l.invariant.nups (next (upvalues_in s));
          })
    ]

pub returns : goal.returns
returns c =
    let l = c.loop-k in
    let a = c.args in
    let t = a.chunk.functions.now in
    let ps = held_of t in
    let h : length ps ≤ l.k = omega (arith, held_length t, c.held_count-count.ensures, c.loop-k-test.false) in
    let none : (f : ℕ → Place → ℕ) → nested_in f a.me l.k (drop l.k ps) ≡ [] = λ f. nested_none f a.me ps l.k h in
    record {
      numbers = filled_all l.invariant.numbers _ (omega arith) (none number_in);
      nups = filled_all l.invariant.nups _ (omega arith) (none (upvalues_in a.chunk.bytes.now));
    }
