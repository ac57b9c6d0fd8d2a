use Rattle.acts_files.proofs.Words.{refl, length, ActsFile}
use Rattle.acts_files.proofs.Same.{few_text, keeps_then, no_more, passed_of, passed_same, same_keeps, text_same}
use Rattle.acts_files.proofs.acts_file.ActsFile.add.Goals as goal

pub returns-clause-kept : goal.returns-clause-kept
returns-clause-kept g c begun newer older is done day keeps =
    let mid : ActsFile _ = record c.args.self.now { disk = c.file_len.new.disk } in
    let same = c.file_len.ensures.same in
    c.put.ensures.kept begun newer older is done day (passed_same g.D.Disk begun older c.args.self.now mid (passed_of g.D.Disk begun older c.args.self.now keeps) same refl refl refl)
    (no_more g.D.Disk begun older c.args.self.now mid (length c.args.lines.now) keeps same refl)

pub returns-clause-few : goal.returns-clause-few
returns-clause-few g c text has clean =
    let same = c.file_len.ensures.same in
    c.put.ensures.few text
    (λ now.
    let t = text_same g.D.Disk text c.args.self.now.len c.args.self.now.disk c.file_len.new.disk same (has (same.clean now)) in
    (t.long, few_text g.D.Disk text c.args.self.now.len (length c.args.lines.now) c.file_len.new.disk t))
    clean

pub returns-clause-loses : goal.returns-clause-loses
returns-clause-loses g c =
    let mid : ActsFile _ = record c.args.self.now { disk = c.file_len.new.disk } in
    keeps_then g.D.Disk c.args.self.now mid c.put.new.self (same_keeps g.D.Disk c.args.self.now mid c.file_len.ensures.same refl) c.put.ensures.loses
