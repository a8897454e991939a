use Rattle.std.proofs.Common.{◌++◌, ◌-◌, List, ℕ, replicate, subst, sym}
use Rattle.vt_packed.specs.Items.{Style, style_of}
use Rattle.vt_packed.specs.Packed.{AreCounted, AreItems, items_from, run_style, styles_of}
use Rattle.vt_packed.proofs.ItemLists.{left_first, runs_first, unread}
use Rattle.vt_packed.proofs.items.Items.next.Goals as goal

pub split_first-requires-clause-nonempty : goal.split_first-requires-clause-nonempty
split_first-requires-clause-nonempty c =
    let i = c.self.inside in
    let style = style_of i.attrs i.wide in
    let styles = styles_of i.runs.now in
    (unread style (replicate (i.left - 1) style ++ styles) i.text.now
    (subst (λ (ss : List Style). AreItems (items_from ss i.text.now) i.text.now)
    (left_first i.left style styles c.if-self-gt0.true) c.self.invariant.1)).nonempty

pub split_first-requires-clause-whole : goal.split_first-requires-clause-whole
split_first-requires-clause-whole c =
    let i = c.self.inside in
    let style = style_of i.attrs i.wide in
    let styles = styles_of i.runs.now in
    (unread style (replicate (i.left - 1) style ++ styles) i.text.now
    (subst (λ (ss : List Style). AreItems (items_from ss i.text.now) i.text.now)
    (left_first i.left style styles c.if-self-gt0.true) c.self.invariant.1)).whole

pub invariant_of-self : goal.invariant_of-self
invariant_of-self c =
    let i = c.self.inside in
    let style = style_of i.attrs i.wide in
    let styles = styles_of i.runs.now in
    let left = replicate (i.left - 1) style ++ styles in (
      c.self.invariant.0,
      subst (λ (rest : List ℕ). AreItems (items_from left rest) rest) (sym c.split_first.ensures.rest)
          (unread style left i.text.now
          (subst (λ (ss : List Style). AreItems (items_from ss i.text.now) i.text.now)
          (left_first i.left style styles c.if-self-gt0.true) c.self.invariant.1)).rest,
    )

pub split_first-requires-3-clause-nonempty : goal.split_first-requires-3-clause-nonempty
split_first-requires-3-clause-nonempty c =
    let i = c.self.inside in
    let run = c.in_ok-run.run'.now in
    let rest = c.in_ok-run.runs.now in
    let counted = subst AreCounted c.in_ok-run.ensures.cases.0 c.self.invariant.0 in
    (unread (run_style run) (replicate (run.count - 1) (run_style run) ++ styles_of rest) i.text.now
    (subst (λ (ss : List Style). AreItems (items_from ss i.text.now) i.text.now)
    (runs_first i.runs.now rest run i.left (style_of i.attrs i.wide) c.if-self-gt0.false c.in_ok-run.ensures.cases.0 counted.0)
    c.self.invariant.1)).nonempty

pub split_first-requires-3-clause-whole : goal.split_first-requires-3-clause-whole
split_first-requires-3-clause-whole c =
    let i = c.self.inside in
    let run = c.in_ok-run.run'.now in
    let rest = c.in_ok-run.runs.now in
    let counted = subst AreCounted c.in_ok-run.ensures.cases.0 c.self.invariant.0 in
    (unread (run_style run) (replicate (run.count - 1) (run_style run) ++ styles_of rest) i.text.now
    (subst (λ (ss : List Style). AreItems (items_from ss i.text.now) i.text.now)
    (runs_first i.runs.now rest run i.left (style_of i.attrs i.wide) c.if-self-gt0.false c.in_ok-run.ensures.cases.0 counted.0)
    c.self.invariant.1)).whole

pub invariant_of-self-2 : goal.invariant_of-self-2
invariant_of-self-2 c =
    let i = c.self.inside in
    let run = c.in_ok-run.run'.now in
    let rest = c.in_ok-run.runs.now in
    let counted = subst AreCounted c.in_ok-run.ensures.cases.0 c.self.invariant.0 in
    let left = replicate (run.count - 1) (run_style run) ++ styles_of rest in (
      counted.1,
      subst (λ (bytes : List ℕ). AreItems (items_from left bytes) bytes) (sym c.split_first-3.ensures.rest)
          (unread (run_style run) left i.text.now
          (subst (λ (ss : List Style). AreItems (items_from ss i.text.now) i.text.now)
          (runs_first i.runs.now rest run i.left (style_of i.attrs i.wide) c.if-self-gt0.false c.in_ok-run.ensures.cases.0 counted.0)
          c.self.invariant.1)).rest,
    )
