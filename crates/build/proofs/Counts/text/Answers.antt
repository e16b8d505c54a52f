-- `text`: one node and its bytes.
use native.Mathlib.Omega.{arith}
use Rattle.build.proofs.Handed.{handed_outcome}
use Rattle.build.proofs.Texts.{text_denied, text-node-room, text_byte-room, text-empty, text-full}
use Rattle.build.proofs.Counts.text.Goals as goal

pub returns-in_err-ask : goal.returns-in_err-ask
returns-in_err-ask c =
    let args = c.args in
    let asked = rw c.of.ensures at c.in_err-ask.ensures in
    handed_outcome c.from_residual.result c.from_residual.ensures.1
    (text_denied args.self args.table.now args.text.now args.bytes.now args.columns.0 c.columns_right-right.ensures asked)

pub add-requires : goal.add-requires
add-requires c =
    let args = c.args in
    let asked = rw c.of.ensures at c.in_ok-ask.ensures in
    text-node-room args.self args.table.now args.text.now args.bytes.now args.columns.0 c.columns_right-right.ensures asked

pub returns-then-size-eq0 : goal.returns-then-size-eq0
returns-then-size-eq0 c =
    let args = c.args in
    let asked = rw c.of.ensures at c.in_ok-ask.ensures in
    text-empty args.self args.table.now args.text.now args.bytes.now args.columns.0 c.columns_right-right.ensures asked c.if-size-eq0.true
    c.add.ensures.0 (rw c.words_of.ensures at c.add.ensures.1)

pub copy-requires : goal.copy-requires
copy-requires c =
    let args = c.args in
    let asked = rw c.of.ensures at c.in_ok-ask.ensures in
    let room = text_byte-room args.self args.table.now args.text.now args.bytes.now args.columns.0 c.columns_right-right.ensures asked c.if-size-eq0.false in
    (omega arith, room.1)

pub overflow_cast-long : goal.overflow_cast-long
overflow_cast-long c =
    let args = c.args in
    let asked = rw c.of.ensures at c.in_ok-ask.ensures in
    let room = text_byte-room args.self args.table.now args.text.now args.bytes.now args.columns.0 c.columns_right-right.ensures asked c.if-size-eq0.false in
    omega (arith, room.0)

pub overflow_add-longer : goal.overflow_add-longer
overflow_add-longer c =
    let args = c.args in
    let asked = rw c.of.ensures at c.in_ok-ask.ensures in
    let room = text_byte-room args.self args.table.now args.text.now args.bytes.now args.columns.0 c.columns_right-right.ensures asked c.if-size-eq0.false in
    omega (arith, room.0)

pub add-requires-2 : goal.add-requires-2
add-requires-2 c =
    let args = c.args in
    let asked = rw c.of.ensures at c.in_ok-ask.ensures in
    text-node-room args.self args.table.now args.text.now args.bytes.now args.columns.0 c.columns_right-right.ensures asked

pub returns : goal.returns
returns c =
    let args = c.args in
    let asked = rw c.of.ensures at c.in_ok-ask.ensures in
    text-full args.self args.table.now args.text.now args.bytes.now args.columns.0 c.columns_right-right.ensures asked c.if-size-eq0.false
    c.add-2.ensures.0 (rw c.words_of-2.ensures at c.add-2.ensures.1) c.copy.ensures
