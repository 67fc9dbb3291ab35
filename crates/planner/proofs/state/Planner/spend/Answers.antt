use Rattle.std.proofs.Common.{◌∙◌, sym, refl, arith}
use Rattle.planner.proofs.Marks.{levels_many}
use Rattle.planner.proofs.state.Planner.spend.Goals as goal
use Rattle.planner.proofs.state.Planner.spend.Goals.{else-token-self-via-then-token-self+then-token-gt0+else-token-len, else-token-self-via-then-token-self+else-token-gt0, else-token-self-via-else-token-self}

pub returns-then-token-len : goal.returns-then-token-len
returns-then-token-len g c =
    let p = c.args.self.now in
    record {
      own = c.if-token-self.true;
      some = omega (arith, c.if-token-gt0.true);
      top = c.if-token-len.true ∙ c.len.ensures.value ∙ sym (levels_many (g.S.Store.rows p.store) p.levels.items);
    }

pub returns : goal.returns
returns g c =
    let p = c.args.self.now in
    let many = levels_many (g.S.Store.rows p.store) p.levels.items in
    record {
      not_newest = λ n. elim c.else-token-self.branch [
        | else-token-self-via-else-token-self w ↦ let own = n.own in omega (arith, w.if-token-self.false)
        | else-token-self-via-then-token-self+else-token-gt0 w ↦ let some = n.some in omega (arith, w.if-token-gt0.false)
        | else-token-self-via-then-token-self+then-token-gt0+else-token-len w ↦ let top = n.top in omega (arith, many, w.if-token-len.false, w.len.ensures.value)
      ];
      refusal = refl;
      token = refl;
    }
