-- The arrays that the code fills from a function's words, and what its values stand for.
use Rattle.std.specs.Prelude.{ℕ, ◌+◌, min, Bool, not, cond, ◌&&◌, List, [], ◌∷◌, map, eqb, ltb, get_or, set}
use Rattle.basics.specs.Range.{only, sum, times, table}
use Rattle.lua51_instruction.specs.Proto.{Proto, size, flow_at}
use Rattle.cfg.specs.Graph.{leader, leaving, entering, is_loop, then_of}
use Rattle.cfg.specs.Graph as graph
use Rattle.cfg.specs.declared.few.UpToTwo.{UpToTwo}
use Rattle.cfg.specs.declared.few.UpToTwo.TheVariants as few
use Rattle.cfg.specs.declared.edges.EdgeKind.{EdgeKind}
use Rattle.cfg.specs.declared.edges.EdgeKind.TheVariants.{Plain, Then, Else}
use Rattle.cfg.specs.declared.edges.Edge.{Edge}

-- 1 for yes, 0 for no
abbrev pub bit : Bool → ℕ
bit b = cond b 1 0

-- the values that one of the code's stands for, in their order
abbrev pub in_order : {T : Type 0} → UpToTwo T → List T
in_order few.None = []
in_order (few.One x) = only x
in_order (few.Two x y) = x ∷ y ∷ []

-- ------------------------------------------------------------ leaders and ranges

-- an array with 1 at some places more
unfoldable pub put_marks : List ℕ → List ℕ → List ℕ
put_marks [] a = a
put_marks (j ∷ js) a = put_marks js (set a j 1)

-- the mark of word j: 1 where a range starts
abbrev pub mark : Proto → ℕ → ℕ
mark p j = bit (leader p j)

-- the marks of the words 0 to n
abbrev pub leaders : Proto → List ℕ
leaders p = table (mark p) (size p + 1)

-- ------------------------------------------------------------ edges

-- the number of an edge's kind: '0 plain, 1 Then, 2 Else'
abbrev pub kind_number : EdgeKind → ℕ
kind_number Plain = 0
kind_number Then = 1
kind_number Else = 2

-- the edges that values of the code's stand for
abbrev pub edge_meant : Edge → graph.Edge
edge_meant e = record { kind = kind_number e.kind; to = e.to }

abbrev pub edges_meant : UpToTwo Edge → List graph.Edge
edges_meant r = map edge_meant (in_order r)

-- the words that they go to
abbrev pub targets : UpToTwo Edge → List ℕ
targets r = map (λ (e : graph.Edge). e.to) (edges_meant r)

-- edges are counted as none, one and more
abbrev pub more : ℕ
more = 2

-- the count with one edge more
abbrev pub one_more : ℕ → ℕ
one_more c = cond (ltb c more) (c + 1) c

-- an array with one edge more counted at each of some places
unfoldable pub entered : List ℕ → List ℕ → List ℕ
entered [] a = a
entered (t ∷ ts) a = entered ts (set a t (one_more (get_or a t 0)))

-- `exits` and `entering`, where the ranges are those that an array marks
abbrev pub exits_by : Proto → List ℕ → ℕ → ℕ → ℕ
exits_by p marks t i = cond (eqb (get_or marks (i + 1) 0) 1) (times t (map (λ e. e.to) (leaving p i (flow_at p i)))) 0

abbrev pub entering_by : Proto → List ℕ → ℕ → ℕ
entering_by p marks t = bit (eqb t 0) + sum (exits_by p marks t) 0 (size p)

-- how many edges enter at the words 0 to n: none, one, more
abbrev pub entrances : Proto → List ℕ
entrances p = table (λ t. min (entering p t) more) (size p + 1)

-- ------------------------------------------------------------ between blocks

-- `diverted`, where the counts of entering edges are those of an array
abbrev pub diverted_by : Proto → List ℕ → ℕ → Bool
diverted_by p counts i = is_loop p i && not (eqb (get_or counts (then_of p i) 0) 1)
