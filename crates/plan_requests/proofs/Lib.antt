mod VerdictLaws
