use Rattle.clause_code.proofs.Rests.{turns_open, turns_close, turned_read}
use Rattle.clause_code.proofs.terms.turn.Goals as goal

pub returns-in_ok-open-in-Build : goal.returns-in_ok-open-in-Build
returns-in_ok-open-in-Build c =
    turns_open c.args.pool.now c.args.homes.now c.args.work c.in-Build.id c.in-Build.register c.in-Build.free c.args.works.now.items c.open.new.works.items
    c.args.code.now.items c.args.made.now.items c.in-Build.is c.requires.work c.requires.works c.in_ok-open-in-Build.ensures

pub returns-in_ok-close-in-Close : goal.returns-in_ok-close-in-Close
returns-in_ok-close-in-Close c =
    turns_close c.args.pool.now c.args.homes.now c.args.work c.in-Close.id c.in-Close.register c.in-Close.free c.args.works.now.items c.args.code.now.items
    c.close.new.code.items c.args.made.now.items c.close.new.made.items c.in-Close.is c.requires.works c.in_ok-close-in-Close.ensures

pub returns-in_ok-read-in-Read : goal.returns-in_ok-read-in-Read
returns-in_ok-read-in-Read c =
    turned_read c.args.pool.now c.args.homes.now c.args.work c.in-Read.id c.in-Read.register c.in-Read.free c.args.works.now.items c.read.new.works.items
    c.args.code.now.items c.read.new.code.items c.args.made.now.items c.read.new.made.items c.in-Read.is c.in_ok-read-in-Read.ensures
