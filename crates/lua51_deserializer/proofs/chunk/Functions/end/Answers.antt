-- `chunk::Functions::end` meets its contract. Assumes nothing.
use Rattle.std.proofs.Common.{◌≡◌, ◌<◌, length, arith, rules}
use Rattle.lua51_deserializer.proofs.Places.{tailed}
use Rattle.lua51_deserializer.proofs.chunk.Functions.end.Goals as goal

pub returns : goal.returns
returns c =
    let t = c.args.self.now in
    let l : length t.tails ≡ 256 = search rules in
    let h : c.args.me < length t.tails = omega arith in
    rw c.from.ensures (tailed t.starts t.tails t.parents t.count c.args.me c.args.tail h)
