-- The search begins behind bytes that are known to be no newline.
use Rattle.std.proofs.Common.{arith, ◌+◌, length-drop}
use Rattle.nav_io.proofs.Cuts.{line_len-searched, searched-within}
use Rattle.nav_io.proofs.lines.search.find_newline.Goals as goal

pub overflow_add-start : goal.overflow_add-start
overflow_add-start c = omega (arith, searched-within c.args.searched.now c.args.start c.args.held.now.items (omega (arith, c.requires.within, c.args.held.now.ok.0)) c.requires.searched, c.args.held.now.ok)

pub newline_after-requires : goal.newline_after-requires
newline_after-requires c =
    omega (arith, searched-within c.args.searched.now c.args.start c.args.held.now.items (omega (arith, c.requires.within, c.args.held.now.ok.0)) c.requires.searched, c.args.held.now.ok.0)

pub returns-in-Some-clause-found : goal.returns-in-Some-clause-found
returns-in-Some-clause-found c =
    let items = c.args.held.now.items in
    let place = line_len-searched c.args.searched.now c.args.start c.in-Some.n items c.requires.searched c.in-Some.ensures.0 in
    (place, omega (arith, c.in-Some.ensures.1, length-drop c.args.start items, length-drop (c.args.start + c.args.searched.now) items))

pub returns-in-Some-clause-searched : goal.returns-in-Some-clause-searched
returns-in-Some-clause-searched c =
    omega (arith, line_len-searched c.args.searched.now c.args.start c.in-Some.n c.args.held.now.items c.requires.searched c.in-Some.ensures.0)

pub returns-in-None-clause-found : goal.returns-in-None-clause-found
returns-in-None-clause-found c =
    let items = c.args.held.now.items in
    let place = line_len-searched c.args.searched.now c.args.start _ items c.requires.searched c.in-None.ensures in
    let within = searched-within c.args.searched.now c.args.start items (omega (arith, c.requires.within, c.args.held.now.ok.0)) c.requires.searched in
    omega (arith, place, within, length-drop c.args.start items, length-drop (c.args.start + c.args.searched.now) items)

pub returns-in-None-clause-searched : goal.returns-in-None-clause-searched
returns-in-None-clause-searched c =
    let items = c.args.held.now.items in
    let place = line_len-searched c.args.searched.now c.args.start _ items c.requires.searched c.in-None.ensures in
    let within = searched-within c.args.searched.now c.args.start items (omega (arith, c.requires.within, c.args.held.now.ok.0)) c.requires.searched in
    omega (arith, place, within, c.len.ensures, length-drop c.args.start items, length-drop (c.args.start + c.args.searched.now) items)
