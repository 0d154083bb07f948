use Rattle.std.proofs.Common.{◌≡◌, ◌<◌, ◌≤◌, ◌++◌, length, take, arith}
use Rattle.std.proofs.lemmas.List.{length-append, length-take-le}
use Rattle.cbmc_top.proofs.FileParts.{read_all, read_some}
use Rattle.cbmc_top.proofs.reading.read_more.Goals as goal

pub returns-then-count-eq0-clause-bytes : goal.returns-then-count-eq0-clause-bytes
returns-then-count-eq0-clause-bytes g c = λ first.
    let size = c.args.bytes.now.ok.0 in
    let here : c.len-2.result ≡ length c.args.bytes.now.items = omega (arith, c.len-2.ensures, size) in
    let auto = c.read.auto.into in
    let part : length (take c.smaller-room.result c.args.buffer.now) ≡ c.smaller-room.result = length-take-le c.smaller-room.result c.args.buffer.now (omega arith) in
    let room : 0 < length c.read.new.into = omega arith in
    read_all _ _ _ _ _ c.in_ok-count.ensures.bytes c.if-count-eq0.true here room first

pub returns-in-Ok-clause-bytes : goal.returns-in-Ok-clause-bytes
returns-in-Ok-clause-bytes g c =
    let size = c.args.bytes.now.ok.0 in
    let here : c.len-2.result ≡ length c.args.bytes.now.items = omega (arith, c.len-2.ensures, size) in
    let auto = c.read.auto.into in
    let part : length (take c.smaller-room.result c.args.buffer.now) ≡ c.smaller-room.result = length-take-le c.smaller-room.result c.args.buffer.now (omega arith) in
    let count = c.in_ok-count.count in
    let into = c.read.new.into in
    let bound : count ≤ length into = c.in_ok-count.ensures.bound in
    let taken : length (take count into) ≡ count = length-take-le count into bound in
    let items = c.in-Ok.ensures.items in
    let longer : length c.args.bytes.now.items < length (c.args.bytes.now.items ++ take count into) = omega (arith, length-append c.args.bytes.now.items (take count into)) in
    (rw items longer, λ first. rw items (read_some _ _ into _ count c.in_ok-count.ensures.bytes here bound (omega arith) first))
