-- Whatever a head and lists hold, there is a function that they stand for. Assumes nothing.
use Prim.Native.Nat.{ℕ}
use mathlib.Core.List.{List}
use mathlib.Core.Path.{refl}
use lib.ListN.{replicate, length-replicate}
use Rattle.lua51_instruction.specs.Proto.{Proto}
use Rattle.lua51_function.specs.Function.{Stands}
use Rattle.lua51_function.specs.declared.function.Head.{Head}

module _ (h : Head) (ws ks ns us : List ℕ) where
  abbrev pub standing : Proto
  standing = record {
    number = h.number;
    parameters = h.parameters;
    upvalues = h.upvalues;
    flags = h.flags;
    stack = h.stack;
    words = ws;
    kinds = ks;
    nested = ns;
    nups = us;
    lines = replicate h.lines 0;
    names = h.names;
  }

  pub stands : Stands standing h ws ks ns us
  stands = record {
    number = refl;
    parameters = refl;
    upvalues = refl;
    flags = refl;
    stack = refl;
    lines = length-replicate h.lines 0;
    names = refl;
    words = refl;
    kinds = refl;
    nested = refl;
    nups = refl;
  }
