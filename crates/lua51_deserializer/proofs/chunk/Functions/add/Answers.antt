-- `chunk::Functions::add` meets its contract. Assumes nothing.
use Rattle.std.proofs.Common.{◌≡◌, ◌<◌, length, arith, rules}
use Rattle.lua51_deserializer.proofs.Places.{placed}
use Rattle.lua51_deserializer.proofs.chunk.Functions.add.Goals as goal

pub returns : goal.returns
returns c =
    let t = c.args.self.now in
    let ls : length t.starts ≡ 256 = search rules in
    let lt : length t.tails ≡ 256 = search rules in
    let lp : length t.parents ≡ 256 = search rules in
    let hs : t.count < length t.starts = omega arith in
    let ht : t.count < length t.tails = omega arith in
    let hp : t.count < length t.parents = omega arith in
    placed t.starts t.tails t.parents t.count c.args.start c.args.parent hs ht hp
