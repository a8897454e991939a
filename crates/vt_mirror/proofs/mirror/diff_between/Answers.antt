use Rattle.vt_mirror.proofs.mirror.diff_between.Goals as goal

pub returns-clause-text : goal.returns-clause-text
returns-clause-text c =
    let e = c.in_ok-text.ensures in record {
      size = c.requires.size;
      from_steady = c.requires.steady;
      is = e.text;
      controls = e.controls;
      rows = e.rows;
      again = e.again;
      shorter = e.shorter;
      redraw = e.redraw;
      redraws = e.redraws;
      empty = e.empty;
      none = e.none;
      portable = e.portable;
    }
