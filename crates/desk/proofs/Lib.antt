mod SettledLaws
