use Rattle.acts_files.proofs.Words.{rules, ◌≡◌, ◌-◌, [], length, drop, inr, refl, sym, subst, ◌∙◌, arith, IsTrue, min, IsNumbered, IsNotPut, IsPartOf, ActsFile, Differs, Lacks}
use Rattle.acts_files.proofs.Left.{at_most_same}
use Rattle.acts_files.proofs.Lines.{part_lineless}
use Rattle.acts_files.proofs.Opens.{cut_keeps, other_behind, put_cut}
use Rattle.acts_files.proofs.Read.{bears_more, head_begins, head_taken, no_part_behind, part_behind}
use Rattle.acts_files.proofs.Same.{cut_texts, keeps_loses, passed_same, put_keeps}
use Rattle.acts_files.proofs.acts_file.ActsFile.cut_rest.Goals as goal
use Rattle.acts_files.proofs.acts_file.ActsFile.cut_rest.Goals.{then-is_numbered, else-is_numbered}

pub returns-then-is_part_of-clause-put : goal.returns-then-is_part_of-clause-put
returns-then-is_part_of-clause-put g c begun acts number was measured low =
    let old = c.args.self.now in
    let mid : ActsFile _ = record old { disk = c.bytes_at.new.disk } in
    let new : ActsFile _ = record old { disk = c.cut_to.new.disk } in
    let same = c.bytes_at.ensures.same in
    let long : length c.in_ok-head.head.items ≡ min (c.args.size - old.len) 8_192 = search rules in
    let part = subst (IsPartOf c.args.next) c.as_slice.ensures.value (c.is_part_of.ensures.0 c.if-is_part_of.true) in (
      put_cut g.D.Disk begun acts old new
          (cut_keeps g.D.Disk begun acts mid new (passed_same g.D.Disk begun acts old mid was same refl refl refl) refl refl refl c.in_ok-cut_to.ensures.usable (λ clean. subst IsTrue c.cut_to.ensures.calm clean) c.in_ok-cut_to.ensures.kept)
          (λ clean.
          let read = subst IsTrue c.cut_to.ensures.calm clean in
          let size = measured (same.clean read) in
          subst (λ n. IsPartOf n (drop old.len (g.D.Disk.seen old.disk))) number
          (part_behind c.args.next (g.D.Disk.seen old.disk) c.in_ok-head.head.items old.len c.args.size size low long (c.in_ok-head.ensures.read read (omega (arith, long, c.in_ok-head.ensures.long, size, low))) part)),
      tt,
    )

pub returns-clause-put : goal.returns-clause-put
returns-clause-put g c begun acts number was measured low =
    let old = c.args.self.now in
    let mid : ActsFile _ = record old { disk = c.bytes_at.new.disk } in
    let same = c.bytes_at.ensures.same in
    let seen = g.D.Disk.seen old.disk in
    let head = c.in_ok-head.head.items in
    let long : length head ≡ min (c.args.size - old.len) 8_192 = search rules in
    let holds = λ (clean : IsTrue (g.D.Disk.is_clean c.bytes_at.new.disk)). let size = measured (same.clean clean) in c.in_ok-head.ensures.read clean (omega (arith, long, c.in_ok-head.ensures.long, size, low)) in
    let none = λ (clean : IsTrue (g.D.Disk.is_clean c.bytes_at.new.disk)).
    no_part_behind c.args.next seen head old.len c.args.size (measured (same.clean clean)) low long (holds clean)
    (λ part. let yes = c.is_part_of.ensures.1 (subst (IsPartOf c.args.next) (sym c.as_slice.ensures.value) part) in absurd (search rules)) in
    elim c.if-is_numbered.branch [
      | then-is_numbered w ↦ (
        tt,
        subst (IsNotPut g.D.Disk begun [] acts old mid) (sym w.result-is)
            (other_behind g.D.Disk begun acts c.args.next old mid (Lacks c.args.next) number same none
            (λ clean. (
              number,
              refl,
              bears_more _ head (drop old.len seen) (head_begins c.args.next seen head old.len c.args.size (measured (same.clean clean)) low long (holds clean))
                  (subst (IsNumbered c.args.next) c.as_slice-2.ensures.value (c.is_numbered.ensures.0 w.if-is_numbered.true)),
            ))),
      )
      | else-is_numbered w ↦ (
        tt,
        subst (IsNotPut g.D.Disk begun [] acts old mid) (sym w.result-is)
            (other_behind g.D.Disk begun acts c.args.next old mid (Differs c.args.next) number same none
            (λ clean. (
              number,
              inr (
                refl,
                λ numbered. let yes = c.is_numbered.ensures.1 (subst (IsNumbered c.args.next) (sym (head_taken c.args.next seen head old.len c.args.size (measured (same.clean clean)) low long (holds clean)) ∙ sym c.as_slice-2.ensures.value) numbered) in let no = w.if-is_numbered.false in absurd cc,
              ),
            ))),
      )
    ]

pub returns-then-is_part_of-clause-lines : goal.returns-then-is_part_of-clause-lines
returns-then-is_part_of-clause-lines g c low measured =
    let old = c.args.self.now in
    let mid : ActsFile _ = record old { disk = c.bytes_at.new.disk } in
    let new : ActsFile _ = record old { disk = c.cut_to.new.disk } in
    let same = c.bytes_at.ensures.same in
    let long : length c.in_ok-head.head.items ≡ min (c.args.size - old.len) 8_192 = search rules in
    let part = subst (IsPartOf c.args.next) c.as_slice.ensures.value (c.is_part_of.ensures.0 c.if-is_part_of.true) in
    put_keeps g.D.Disk c.args.size old mid new same refl measured low
    (λ read. let size = measured (same.clean read) in
    part_lineless _ (part_behind c.args.next (g.D.Disk.seen old.disk) c.in_ok-head.head.items old.len c.args.size size low long (c.in_ok-head.ensures.read read (omega (arith, long, c.in_ok-head.ensures.long, size, low))) part).part)
    (cut_texts g.D.Disk mid new refl (λ clean. subst IsTrue c.cut_to.ensures.calm clean) c.cut_to.ensures.loses)

pub returns-then-is_part_of-clause-loses : goal.returns-then-is_part_of-clause-loses
returns-then-is_part_of-clause-loses g c low measured =
    let new : ActsFile _ = record c.args.self.now { disk = c.cut_to.new.disk } in
    keeps_loses g.D.Disk c.args.self.now.disk new (returns-then-is_part_of-clause-lines g c low measured)

pub returns-in_err-cut_to-clause-loses : goal.returns-in_err-cut_to-clause-loses
returns-in_err-cut_to-clause-loses g c low measured =
    let old = c.args.self.now in
    let mid : ActsFile _ = record old { disk = c.bytes_at.new.disk } in
    let new : ActsFile _ = record old { disk = c.cut_to.new.disk } in
    let same = c.bytes_at.ensures.same in
    let long : length c.in_ok-head.head.items ≡ min (c.args.size - old.len) 8_192 = search rules in
    let part = subst (IsPartOf c.args.next) c.as_slice.ensures.value (c.is_part_of.ensures.0 c.if-is_part_of.true) in
    keeps_loses g.D.Disk old.disk new (
    put_keeps g.D.Disk c.args.size old mid new same refl measured low
    (λ read. let size = measured (same.clean read) in
    part_lineless _ (part_behind c.args.next (g.D.Disk.seen old.disk) c.in_ok-head.head.items old.len c.args.size size low long (c.in_ok-head.ensures.read read (omega (arith, long, c.in_ok-head.ensures.long, size, low))) part).part)
    (cut_texts g.D.Disk mid new refl (λ clean. subst IsTrue c.cut_to.ensures.calm clean) c.cut_to.ensures.loses))

pub returns-clause-short : goal.returns-clause-short
returns-clause-short g c most low before = at_most_same g.D.Disk most c.args.self.now.disk c.bytes_at.new.disk c.bytes_at.ensures.same before

pub returns-in_err-head-clause-short : goal.returns-in_err-head-clause-short
returns-in_err-head-clause-short g c most low before = at_most_same g.D.Disk most c.args.self.now.disk c.bytes_at.new.disk c.bytes_at.ensures.same before

pub returns-then-is_part_of-clause-short : goal.returns-then-is_part_of-clause-short
returns-then-is_part_of-clause-short g c most low before = c.cut_to.ensures.short most low (at_most_same g.D.Disk most c.args.self.now.disk c.bytes_at.new.disk c.bytes_at.ensures.same before)

pub returns-in_err-cut_to-clause-short : goal.returns-in_err-cut_to-clause-short
returns-in_err-cut_to-clause-short g c most low before = c.cut_to.ensures.short most low (at_most_same g.D.Disk most c.args.self.now.disk c.bytes_at.new.disk c.bytes_at.ensures.same before)
