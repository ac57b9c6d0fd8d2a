use Rattle.std.proofs.Common.{refl}
use Rattle.service.proofs.Importing.{named, unread}
use Rattle.service.proofs.goods_file.import_named.Goals as goal

pub returns-in-Ok-clause-imported : goal.returns-in-Ok-clause-imported
returns-in-Ok-clause-imported g c clean first begun acts history holds leaves keeps =
    let kept = c.import.new.keeper in
    named g.S.Store first acts (g.F.FilesAt.bytes c.args.files.now c.args.name.now) (g.F.File.Read.remaining c.in-Ok.file) c.in-Ok.ensures c.import.new.books (g.K.Keeper.keeps kept begun) (g.K.Keeper.leaves kept begun acts) g.K.Keeper.may_fail _ _
    c.import.result (c.import.ensures.imported clean first begun acts history holds leaves keeps)

pub returns-in-Err-clause-imported : goal.returns-in-Err-clause-imported
returns-in-Err-clause-imported g c clean first begun acts history holds leaves keeps =
    let kept = c.args.keeper.now in
    unread g.S.Store first acts (g.F.FilesAt.bytes c.args.files.now c.args.name.now) c.args.books.now (g.K.Keeper.keeps kept begun) (g.K.Keeper.leaves kept begun acts) g.K.Keeper.may_fail _ _ holds leaves refl keeps
