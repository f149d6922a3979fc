-- Demand 3: the two ways to follow an accepted function agree.
use mathlib.Core.Bool.{Bool, true, not, cond, ◌||◌, ◌&&◌}
use Rattle.lua51_instruction.specs.Word.{straight, skip, jump, test, test_set, loop_entry, numeric_loop, generic_loop}
use Rattle.lua51_instruction.specs.Word.{exit, MOVE, GETUPVAL, TESTSET, FORLOOP, TFORLOOP, Flow, number_of}
use Rattle.cfg.proofs.Leaders.{Onward, straight_on, skips_none, goes_onward, Found, past_found}
use Rattle.follow.proofs.Simulation.{Straight, done, on, Follows, first_in_second, second_in_first, first_unlost}
use Rattle.follow.proofs.Simulation.{arrives, more, together, second_unlost, more_le}
use Prim.Native.Nat.{ℕ, zero, suc, ◌+◌, ◌-◌, ◌≤◌, ◌<◌}
use native.Mathlib.Omega.{arith}
use mathlib.Core.Path.{◌≡◌, refl, sym, ap, ◌∙◌}
use mathlib.Core.List.{List, [], ◌∷◌, ◌++◌, map, append_assoc, append-nil}
use lib.Dec.{ltb, eqb}
use borrow.Author.Tests.{eqb-true, eqb-false, ne_eqb}
use Rattle.lua51_instruction.specs.Proto.{Proto, size, is, op_at, flow_at, arg_c}
use Rattle.follow.specs.WordFollower.{word_step, word_step_from, at, nothing, kept, nils, At, owing, by_words}
use Rattle.lua51_lifter.specs.Check.{check, fine}
use Rattle.follow.specs.Account.{Action, go, Next, Step, account}
use Rattle.lua51_lifter.specs.Lift.{on_then, pending, statements, statements_by}
use Rattle.lua51_lifter.specs.Blocks.{Block, no_block, leads, edges_of, entry_nils, brought, front, code_block}
use Rattle.lua51_lifter.specs.Blocks.{entry_block, between_block, blocks, Named, naming, unnamed, graph}
use Rattle.basics.specs.Range.{only, over, sum}
use Rattle.follow.specs.GraphFollower.{ending_of, graph_step, entry_from, by_blocks, by_graph, next_block, ending}
use Rattle.lua51_lifter.proofs.Naming.{said_code, said_entry, said_between}
use Rattle.follow.proofs.Statements.{Quiet, quiet_cond, quiet_append, acts, quiet_over, acts_append}
use Rattle.follow.proofs.Statements.{quiet_passes, Plain, quiet_ending, plain_quiet, plain_acts}
use Rattle.follow.proofs.Ends.{Alongside, at_code, ended_test, Ended, at_between, bare_arrival, ended_set}
use Rattle.follow.proofs.Ends.{then_lands, then_loop, ended_each, onward_edge, then_each, ended_jump}
use Rattle.follow.proofs.Ends.{onward_arrival, ended_loop, ended_entry, ended_skip, ended_exit}
use Rattle.ast.specs.Statement.{Stmt}
use Rattle.cfg.specs.Graph.{leader, diverted, past, block_of, entry_of, between_of, entering, then_of, is_loop, leaving, Edge}
use Rattle.lua51_lifter.proofs.Captures.{leader_free, free}
use Rattle.follow.proofs.Run.{Ran, run}
use Rattle.follow.proofs.Words.{carried, carried_none, left_for, left_none, left_kept, done_here, nils_plain}
use Rattle.follow.proofs.Words.{says, nils_are}
use Rattle.basics.proofs.Tests.{either_way}
use Rattle.follow.specs.Demand.{Agree}
use Rattle.basics.proofs.Range.{over_split}
use Rattle.lua51_lifter.proofs.Accepted.{end_leader, leader_takes_none, some_words}
use Rattle.lua51_instruction.proofs.Table.{all_below, opcodes_of, flow_not}
use Rattle.cfg.proofs.Entering.{loop_cases, diverted_loop}
use Rattle.lua51_lifter.proofs.Blocks.{between_at, entry_at, code_at}
use Rattle.lua51_lifter.proofs.Fronts.{entry_front, diverted_front}

-- what is owed is written in one step, or was nothing
record Paid (p : Proto) (t : ℕ) (owed : List Action) : Type 0 where
  steps : ℕ
  way : Straight (word_step p) steps (owing owed t) owed (at t nothing)

paid : (p : Proto) (t : ℕ) (owed : List Action) → Paid p t owed
unfolding word_step word_step_from
paid p t [] = record { steps = 0; way = done }
paid p t (a ∷ owed) = record { steps = 1; way = rw append-nil at way }
  where
    way : Straight (word_step p) 1 (owing (a ∷ owed) t) ((a ∷ owed) ++ []) (at t nothing)
    way = on refl done

paid_some : (p : Proto) (t : ℕ) (owed : List Action) (a : Action) → owed ≡ only a → 0 < (paid p t owed).steps
paid_some p t owed a e = rw e (unfold paid in omega arith)

module _ (p : Proto) where
  -- code blocks are of kind 0, and the entry behind them is of kind 1
  past_codes : (from k n : ℕ) (rest : List (Block Named))
      → entry_from n (over (λ j. cond (leader p j) (only (code_block naming p j)) []) from k ++ (entry_block naming p ∷ rest))
      ≡ n + sum (λ j. cond (leader p j) 1 0) from k
  unfolding over sum entry_from code_block entry_block
  past_codes from zero n rest = omega arith
  past_codes from (suc k) n rest = either_way (leader p from)
      (λ h. rw h (omega (arith, past_codes (from + 1) k (n + 1) rest)))
      (λ h. rw h (omega (arith, past_codes (from + 1) k n rest)))

  -- so the follower of the graph starts at its number
  starts : (k : ℕ) (answers : List Bool)
      → by_graph p k answers ≡ account (graph_step (graph p)) k answers (entry_of p)
  unfolding by_graph by_blocks
  starts k answers = ap (account (graph_step (graph p)) k answers) found
    where
      found : entry_from 0 (graph p) ≡ entry_of p
      found = unfold graph blocks block_of in
          omega (
            arith,
            past_codes 0 (size p + 1) 0 (over (λ i. cond (diverted p i) (only (between_block naming p i)) []) 0 (size p)),
          )

  on_then_quiet : (i : ℕ) → Quiet (on_then p i)
  unfolding on_then ending_of
  on_then_quiet i = quiet_cond (is p i TESTSET) _ _ (refl, tt) (quiet_cond (is p i FORLOOP) _ _ (refl, tt) (quiet_cond (is p i TFORLOOP) _ _ (refl, tt) tt))

  front_quiet : (t : ℕ) → Quiet (front unnamed p t)
  unfolding front brought
  front_quiet t = quiet_append (cond (ltb 0 t && is p (t - 1) TESTSET) (on_then p (t - 1)) []) _
      (quiet_cond (ltb 0 t && is p (t - 1) TESTSET) _ _ (on_then_quiet (t - 1)) tt)
      (quiet_cond (eqb (entering p t) 1) _ _ (quiet_over _ 0 (size p) (λ i. quiet_cond (is_loop p i && eqb (then_of p i) t) _ _ (on_then_quiet i) tt)) tt)

  module _ (ok : check p ≡ fine) where
    carries_none : (t : ℕ) → leader p t ≡ true → carried p t ≡ []
    carries_none t h = carried_none p t (leader_takes_none p ok t h)

    leads_none : (t : ℕ) → leader p t ≡ true → left_for p t ≡ nothing
    leads_none t h = left_none p t (leader_takes_none p ok t h)

    module _ (t : ℕ) (lt : t < size p) (l : leader p t ≡ true) where
      abbrev body : List Stmt
      body = over (statements p) t (past p t - t)

      -- what is brought to its front
      abbrev at_front : List Stmt
      at_front = front unnamed p t

      -- the range's last word
      abbrev last : ℕ
      last = past p t - 1

      -- the edges of its block
      abbrev ways : List Edge
      ways = map (leads p last) (leaving p last (flow_at p last))

      code_step : graph_step (graph p) (block_of p t)
          ≡ record { writes = acts (at_front ++ body); next = next_block (ending (at_front ++ body)) ways }
      unfolding graph_step graph code_block edges_of
      code_step = rw (
        code_at naming p no_block t (omega arith) l,
        said_code p t,
        ne_eqb t (size p) (λ e. omega arith),
      )

      code_writes : (graph_step (graph p) (block_of p t)).writes ≡ acts at_front ++ acts body
      code_writes = rw code_step (acts_append at_front body)

      code_next : (graph_step (graph p) (block_of p t)).next ≡ next_block (ending body) ways
      code_next = rw (code_step, quiet_ending at_front body (front_quiet t))

      range : Found p (t + 1) (past p t)
      range = past_found p (end_leader p ok) t lt

      last_inside : last < size p
      last_inside = omega (arith, range.within, range.from)

      last_next : last + 1 ≡ past p t
      last_next = omega (arith, range.from)

      before_last : (m : ℕ) → t ≤ m → m < last → Onward p m
      before_last m a b = goes_onward p m (omega (arith, range.within)) (range.none (m + 1) (omega arith) (omega arith))

      here_free : t + pending p t ≡ t
      here_free = omega (arith, leader_free p ok t (omega arith) l)

      abbrev Follow : Type 0
      Follow = Follows (graph_step (graph p)) (word_step p) (Alongside p) (block_of p t) (owing (acts at_front) t)

      -- a range through which the run goes on into the next
      through : Onward p last → Follow
      through o =
          let all : (m : ℕ) → t ≤ m → m < past p t → Onward p m = λ m a b. either_way (eqb m last) (λ q. rw (eqb-true m last q) o) (λ q. before_last m a (omega (arith, eqb-false m last q))) in
          let r : Ran p t (past p t) body = run p ok (past p t - t) t (past p t) (omega (arith, range.from)) range.within all in
          let there_free : past p t + pending p (past p t) ≡ past p t = omega (arith, leader_free p ok (past p t) range.within range.leads) in
          let written : acts body ≡ r.written = sym (append-nil (acts body)) ∙ (rw (carries_none (past p t) range.leads, carries_none t l) at r.said) in
          let way : Straight (word_step p) r.steps (at t nothing) r.written (at (past p t) nothing) = rw (here_free, there_free, leads_none t l, leads_none (past p t) range.leads) at r.way in
          let owed = paid p t (acts at_front) in
          let goes : (graph_step (graph p) (block_of p t)).next ≡ go (block_of p (past p t)) = code_next ∙ rw (quiet_passes body r.quiet) (rw last_next at (onward_edge p ok last last_inside o)) in
          arrives (graph_step (graph p)) (word_step p) (Alongside p)
          (omega (arith, more_le owed.steps r.steps, r.moves (leader_free p ok t (omega arith) l) (omega (arith, range.from))))
          (together (word_step p) owed.way way) (code_writes ∙ rw written) goes
          (rw last_next at (onward_arrival p ok last last_inside (rw last_next range.leads) o))

      -- a range whose last word leaves it
      body_split : body ≡ over (statements p) t (last - t) ++ statements p last
      unfolding over
      body_split =
          let n : past p t - t ≡ last - t + 1 = omega (arith, range.from) in
          let m : t + (last - t) ≡ last = omega (arith, range.from) in
          rw n (over_split (statements p) t (last - t) 1 ∙ rw m (ap {B = List Stmt} (λ (x : List Stmt). over (statements p) t (last - t) ++ x) (append-nil (statements p last))))

      -- the last word, done with what is left open for it
      abbrev at_last : At
      at_last = at last (left_for p last)

      last_acts : (f : Flow) → flow_at p last ≡ f → pending p last ≡ 0
          → acts (statements p last) ≡ carried p last ++ (word_step p at_last).writes
      unfolding statements
      last_acts f e z =
          let none : carried p (last + 1) ≡ [] = rw last_next (carries_none (past p t) range.leads) in
          rw (z, done_here p ok last last_inside) (sym (append-nil (acts (statements_by p last (op_at p last)))) ∙ (rw none at (says p ok last last_inside (kept (left_for p last)) (left_kept p last) f e)))

      out : (f : Flow) → flow_at p last ≡ f → pending p last ≡ 0 → ((k : ℕ) → Ended p last k f)
          → Ran p t last (over (statements p) t (last - t)) → Follow
      out f e z ended r =
          let there_free : last + pending p last ≡ last = omega arith in
          let way : Straight (word_step p) r.steps (at t nothing) r.written at_last = rw (here_free, there_free, leads_none t l) at r.way in
          let before : acts (over (statements p) t (last - t)) ++ carried p last ≡ r.written = rw (carries_none t l) at r.said in
          let owed = paid p t (acts at_front) in
          record {
            steps = more owed.steps r.steps;
            acts = acts at_front ++ r.written;
            then_at = at_last;
            way = together (word_step p) owed.way way;
            writes = code_writes
                ∙ (ap {B = List Action} (λ (x : List Action). acts at_front ++ x) (written before)
                ∙ sym (append_assoc (acts at_front) r.written (word_step p at_last).writes));
            next = rw (code_next, body_split, quiet_ending (over (statements p) t (last - t)) (statements p last) r.quiet, done_here p ok last last_inside, here) (rw e (ended (kept (left_for p last))));
          }
        where
          here : statements p last ≡ statements_by p last (op_at p last)
          here = unfold statements in rw z

          written : acts (over (statements p) t (last - t)) ++ carried p last ≡ r.written
              → acts body ≡ r.written ++ (word_step p at_last).writes
          written before = ap {B = List Action} acts body_split
              ∙ (acts_append (over (statements p) t (last - t)) (statements p last)
              ∙ (ap {B = List Action} (λ (x : List Action). acts (over (statements p) t (last - t)) ++ x) (last_acts f e z)
              ∙ (sym (append_assoc (acts (over (statements p) t (last - t))) (carried p last) (word_step p at_last).writes)
              ∙ ap {B = List Action} (λ (x : List Action). x ++ (word_step p at_last).writes) before)))

      to_last : Ran p t last (over (statements p) t (last - t))
      to_last = run p ok (last - t) t last (omega (arith, range.from)) (omega (arith, range.within)) before_last

      -- no capture is other than straight
      unbound : (f : Flow) → flow_at p last ≡ f
          → all_below (λ o. not (opcodes_of f o) || not (eqb o (number_of MOVE))) 64 ≡ true
          → all_below (λ o. not (opcodes_of f o) || not (eqb o (number_of GETUPVAL))) 64 ≡ true → pending p last ≡ 0
      unbound f e a b = free p ok last (omega (arith, last_inside)) (flow_not p last f MOVE e a) (flow_not p last f GETUPVAL e b)

      code_follows : (f : Flow) → flow_at p last ≡ f → Follow
      code_follows straight e = through (straight_on e)
      code_follows test e = out test e (unbound test e refl refl) (λ k. ended_test p ok last last_inside k e) to_last
      code_follows test_set e = out test_set e (unbound test_set e refl refl) (λ k. ended_set p ok last last_inside k e) to_last
      code_follows generic_loop e = out generic_loop e (unbound generic_loop e refl refl) (λ k. ended_each p ok last last_inside k e) to_last
      code_follows jump e = out jump e (unbound jump e refl refl) (λ k. ended_jump p ok last last_inside k e) to_last
      code_follows numeric_loop e = out numeric_loop e (unbound numeric_loop e refl refl) (λ k. ended_loop p ok last last_inside k e) to_last
      code_follows loop_entry e = out loop_entry e (unbound loop_entry e refl refl) (λ k. ended_entry p ok last last_inside k e) to_last
      code_follows skip e = either_way (eqb (arg_c p last) 0) (λ c. through (skips_none e c)) (λ c. out skip e (unbound skip e refl refl) (λ k. ended_skip p ok last last_inside k e c) to_last)
      code_follows exit e = out exit e (unbound exit e refl refl) (λ k. ended_exit p ok last last_inside k e) to_last

    -- ------------------------------------------------------------ between blocks

    module _ (i : ℕ) (lt : i < size p) (d : diverted p i ≡ true) where
      between_step : graph_step (graph p) (between_of p i) ≡ record { writes = acts (on_then p i); next = go (block_of p (then_of p i)) }
      unfolding graph_step graph between_block next_block
      between_step = rw (between_at naming p no_block i lt d, said_between p i, quiet_passes (on_then p i) (on_then_quiet i))

      -- the one action on the Then edge of a loop
      some_act : (a : Action) × (acts (on_then p i) ≡ only a)
      some_act = loop_cases p i (diverted_loop p i d) (λ e. (_, then_loop p i e)) (λ e. (_, then_each p i e))

      between_follows : Follows (graph_step (graph p)) (word_step p) (Alongside p) (between_of p i) (owing (acts (on_then p i)) (then_of p i))
      between_follows =
          let owed = paid p (then_of p i) (acts (on_then p i)) in
          let to = then_lands p ok i lt (diverted_loop p i d) in
          arrives (graph_step (graph p)) (word_step p) (Alongside p)
          (paid_some p (then_of p i) (acts (on_then p i)) some_act.0 some_act.1) owed.way
          (ap {B = List Action} (λ (s : Step ℕ). s.writes) between_step) (ap {B = Next ℕ} (λ (s : Step ℕ). s.next) between_step)
          (bare_arrival p (then_of p i) to.0 to.1 (diverted_front unnamed p i d to.2))

    follows : (g : ℕ) (w : At) → Alongside p g w → Follows (graph_step (graph p)) (word_step p) (Alongside p) g w
    follows g w (at_code t lt l) = code_follows t lt l (flow_at p (past p t - 1)) refl
    follows g w (at_between i lt d) = between_follows i lt d

    -- ------------------------------------------------------------ the start

    -- every register from the parameter count up, set to nil
    abbrev start_nils : List Action
    start_nils = nils p.parameters (p.stack - p.parameters)

    entry_step : graph_step (graph p) (entry_of p) ≡ record { writes = start_nils; next = go 0 }
    unfolding graph_step graph entry_block entry_nils next_block
    entry_step =
        let plain : Plain (entry_nils p) = nils_plain p.parameters (p.stack - p.parameters) in
        rw (
          entry_at naming p no_block,
          said_entry p,
          quiet_passes (entry_nils p) (plain_quiet (entry_nils p) plain),
          plain_acts (entry_nils p) plain,
          nils_are p.parameters (p.stack - p.parameters),
        )

    start : Alongside p 0 (at 0 nothing)
    start = rw first_block at (bare_arrival p 0 (some_words p ok) (unfold leader in refl) (entry_front unnamed p))
      where
        first_block : block_of p 0 ≡ 0
        first_block = unfold block_of sum in refl

    way_in : Straight (word_step p) (paid p 0 start_nils).steps (owing start_nils 0) (graph_step (graph p) (entry_of p)).writes (at 0 nothing)
    way_in = rw entry_step (paid p 0 start_nils).way

    onto_start : (graph_step (graph p) (entry_of p)).next ≡ go 0
    onto_start = ap {B = Next ℕ} (λ (s : Step ℕ). s.next) entry_step

    -- the two accounts of an accepted function, for any list of answers: each is, after any number of steps, a beginning of the other's, and
    -- neither is lost
    pub agree : (answers : List Bool) → Agree p answers
    unfolding by_words
    agree answers = record {
      graph_in_words = λ k. rw starts (first_in_second (graph_step (graph p)) (word_step p) (Alongside p) follows (entry_of p) 0 (owing start_nils 0) (at 0 nothing) (paid p 0 start_nils).steps way_in onto_start start answers k);
      words_in_graph = λ k.
          let m = second_in_first (graph_step (graph p)) (word_step p) (Alongside p) follows (entry_of p) 0 (owing start_nils 0) (at 0 nothing) (paid p 0 start_nils).steps way_in onto_start start answers k in
          (m.0, rw starts m.1);
      graph_unlost = λ k. rw starts (first_unlost (graph_step (graph p)) (word_step p) (Alongside p) follows (entry_of p) 0 (owing start_nils 0) (at 0 nothing) (paid p 0 start_nils).steps way_in onto_start start answers k);
      words_unlost = second_unlost (graph_step (graph p)) (word_step p) (Alongside p) follows (entry_of p) 0 (owing start_nils 0) (at 0 nothing) (paid p 0 start_nils).steps way_in onto_start start answers;
    }
