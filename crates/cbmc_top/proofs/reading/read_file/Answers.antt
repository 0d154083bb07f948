use Rattle.std.proofs.Common.{◌≤◌, length, sym, subst, arith}
use Rattle.cbmc_top.specs.Calls.{WasRead}
use Rattle.cbmc_top.proofs.FileParts.{was_read, read_to_end}
use Rattle.cbmc_top.proofs.reading.read_file.Goals as goal
use Rattle.cbmc_top.proofs.reading.read_file.Goals.{else-reading-test, then-reading-test+in_ok-read_more+then-not-branch}

pub returns-clause-bytes : goal.returns-clause-bytes
returns-clause-bytes g c =
    let held = g.S.Source.holds c.args.files.now c.args.name.now in
    elim c.reading-test.branch [
      | else-reading-test w ↦
          let size = c.reading.bytes.ok.0 in
          let all : 1048577 ≤ length c.reading.bytes.items = omega (arith, w.reading-test.false, c.len.ensures, size) in
          subst (λ b. WasRead held b.items) (sym w.bytes-is) (was_read held c.reading.bytes.items all c.reading.invariant.first)
      | then-reading-test+in_ok-read_more+then-not-branch w ↦
          subst (λ b. WasRead held b.items) (sym w.bytes-is) (read_to_end held _ c.reading.bytes.items _ _ w.if-not-branch.true (c.reading.invariant.held c.args.name.now) w.in_ok-read_more.ensures.bytes c.reading.invariant.first)
    ]
