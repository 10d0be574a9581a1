use Rattle.std.proofs.Common.{◌∙◌, refl, arith}
use Rattle.windows.proofs.Windows.{window_none}
use Rattle.links.proofs.Links.{link_start, link_next, link_end}
use Rattle.links.proofs.count_links.Goals as goal

pub loop-p-init : goal.loop-p-init
loop-p-init c =
    record { linked = link_start 16385 refl; window_holds = window_none 16385 c.args.b refl; same_bound = refl }

pub loop-p-preserved : goal.loop-p-preserved
loop-p-preserved c =
    let v = c.loop-p.invariant in
    let out = c.release-links.ensures in
    let enters = c.add_row-links.ensures in
    record {
      linked = link_next v.linked c.args.walk.safe (omega arith) (rw v.same_bound at out.released)
          (rw (c.row.ensures.nexts, c.row.ensures.begins, out.same_bound, v.same_bound) at enters.row_added);
      window_holds = enters.window_holds_2;
      same_bound = enters.same_bound ∙ out.same_bound ∙ v.same_bound;
    }

pub returns : goal.returns
returns c = link_end c.loop-p.invariant.linked (omega arith)
