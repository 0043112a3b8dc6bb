-- The whole lines are left, or the settings line is written, which leaves the files of bytes as they are.
use Rattle.std.proofs.Common.{rules, ◌≡◌, ◌≢◌, List, subst, sym}
use Rattle.std.specs.Io.KnownBytes.{Appends}
use Rattle.ll_entry.specs.Leads.{with_end}
use Rattle.ll_entry.specs.SettingsLine.{settings_line}
use Rattle.ll_layout.specs.Held.{LayoutValue}
use Rattle.ll_settings.specs.Settings.{Configuration}
use Rattle.ll_spool.proofs.BeginLemmas.{lines_begun, settings_begun}
use Rattle.ll_spool.specs.Files.{AreHeld}
use Rattle.ll_spool.proofs.spool.Spool.begin.Goals as goal

pub returns-then-self-ne0-clause-text : goal.returns-then-self-ne0-clause-text
returns-then-self-ne0-clause-text g c = λ text is whole.
    let n = c.args.self.now.whole in
    let some : n ≢ 0 = search rules in
    lines_begun c.args.self.now.settings text n (g.D.Disk.lines c.args.self.now.disk) (g.D.Disk.lines c.cut.new.self.disk) is whole some c.in_ok-cut.ensures.text

pub returns-clause-text : goal.returns-clause-text
returns-clause-text g c = λ text is whole.
    let n = c.args.self.now.whole in
    let none : n ≡ 0 = search rules in
    let mid = g.D.Disk.lines c.cut.new.self.disk in
    let new = g.D.Disk.lines c.write_settings.new.self.disk in
    let line : Appends mid new (with_end (settings_line c.args.self.now.settings)) =
    subst (λ (s : Configuration). Appends mid new (with_end (settings_line s))) c.cut.ensures.settings c.in_ok-write_settings.ensures.text in
    settings_begun c.args.self.now.settings text n (g.D.Disk.lines c.args.self.now.disk) mid new is whole none c.in_ok-cut.ensures.text line

pub returns-clause-held : goal.returns-clause-held
returns-clause-held g c = λ of all.
    let files = g.D.Disk.files c.cut.new.self.disk in
    let layouts : c.write_settings.new.self.layouts.items ≡ c.cut.new.self.layouts.items = search rules in
    subst (AreHeld of c.write_settings.new.self.layouts.items) (sym c.write_settings.ensures.files)
    (subst (λ (ls : List LayoutValue). AreHeld of ls files) (sym layouts) (c.in_ok-cut.ensures.held of all))
